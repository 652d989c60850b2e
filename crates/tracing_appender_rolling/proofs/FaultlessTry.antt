-- A try over a folder that refuses nothing, and out of memory where no file goes and no link is made.
use Rattle.std.proofs.Common.{◌≡◌, ℕ, suc, ◌+◌, false, List, [], ◌∷◌, ◌++◌, length, refl, ap, subst, ◌∙◌, sym, arith, Option, Some, None}
use Rattle.std.proofs.Common.{Ok, Err, inl, inr}
use Rattle.std.specs.Str.{bytes_eq}
use Rattle.tracing_core_moments.specs.declared.moment.Moment.{Moment}
use Rattle.tracing_appender_rolling.specs.declared.faults.Faults.{Faults}
use Rattle.tracing_appender_rolling.specs.declared.folders.fault.FileNumber.{FileNumber}
use Rattle.tracing_appender_rolling.specs.declared.init.InitFailure.{InitFailure}
use Rattle.tracing_appender_rolling.specs.Names.{FileNames}
use Rattle.tracing_appender_rolling.specs.folders.Contents.{Contents, Answer, IsSound, file_named, link_named, bytes_at, fresh, open_at}
use Rattle.tracing_appender_rolling.specs.RetentionRemovals.{pruned, pruned_by, UnprunedBy}
use Rattle.tracing_appender_rolling.specs.Tries.{Tried, MissedFile, opened_twice, after_opening}
use Rattle.tracing_appender_rolling.specs.Looks.{Starved, name_at}
use Rattle.tracing_appender_rolling.specs.Writes.{Unchanged}
use Rattle.tracing_appender_rolling.proofs.folders.Content.{after_line, stands_from, stands_to, fresh_stands, no_bytes, fresh_bytes}
use Rattle.tracing_appender_rolling.proofs.FaultlessFolder.{opened_is}
use Rattle.tracing_appender_rolling.specs.PrunedSinks.{StandOnce}
use Rattle.tracing_appender_rolling.proofs.RetainedFiles.{once_added}

-- what a sound opening leaves: the name stands for the file, and its bytes are the old ones, none where there was no file
pub record Opens (c d : Contents) (name : List ℕ) (file : FileNumber) : Type 0 where
  pub stands : file_named name d.files ≡ Some file.index
  pub sound : IsSound d
  pub links : d.links ≡ c.links
  pub bytes : (other : List ℕ) → bytes_at d.files other ≡ after_line (bytes_eq name other) (bytes_at c.files other) []
  pub once : StandOnce c.files → StandOnce d.files
  pub open_files : d.open_files ≡ c.open_files ++ file.index ∷ []

opens_at : (c : Contents) (name : List ℕ) (file : FileNumber) → IsSound c → (found : Option ℕ) → file_named name c.files ≡ found →
    (open_at c name found).0 ≡ Ok file → Opens c (open_at c name found).1 name file
opens_at c name file sound (Some place) is answer =
    let same : place ≡ file.index = cc in
    record {
      stands = is ∙ ap Some same;
      sound = λ n. sound (suc n);
      links = refl;
      bytes = λ other. no_bytes name other c.files place
          (stands_from name c.files place is);
      once = λ o. o;
      open_files = ap (λ n. c.open_files ++ n ∷ []) same;
    }
opens_at c name file sound None is answer =
    let same : length c.files ≡ file.index = cc in
    record {
      stands = stands_to name (c.files ++ fresh name ∷ []) 0 (length c.files) (fresh_stands name c.files 0 is) ∙
          ap Some (let e : 0 + length c.files ≡ file.index = omega (arith, same) in e);
      sound = λ n. sound (suc n);
      links = refl;
      bytes = λ other. fresh_bytes name other c.files is;
      once = once_added name c.files 0 is;
      open_files = ap (λ n. c.open_files ++ n ∷ []) same;
    }

-- a try over a sound folder, whether the name stood for a file or not
pub record SoundTry (c : Contents) (name : List ℕ) (t : Tried) : Type 0 where
  pub file : FileNumber
  pub left : Contents
  pub is : t ≡ (Ok file, left)
  pub opens : Opens c left name file

try_found : (c : Contents) (name : List ℕ) → IsSound c → (found : Option ℕ) → file_named name c.files ≡ found →
    SoundTry c name (after_opening name (open_at c name found))
try_found c name sound (Some place) is =
    record {
      file = record { index = place };
      left = (open_at c name (Some place)).1;
      is = refl;
      opens =
          opens_at c name (record { index = place }) sound (Some place) is refl;
    }
try_found c name sound None is =
    record {
      file = record { index = length c.files };
      left = (open_at c name None).1;
      is = refl;
      opens =
          opens_at c name (record { index = length c.files }) sound None is refl;
    }

pub sound_try : (c : Contents) (name : List ℕ) → IsSound c → link_named name c.links ≡ false → SoundTry c name (opened_twice name c)
sound_try c name sound free =
    let is = opened_is c name sound free in
    subst (λ (a : Answer FileNumber). SoundTry c name (after_opening name a)) (sym is)
    (try_found c name sound (file_named name c.files) refl)

-- an answer is that of the try
pub answer_file : (t : Tried) (file left_file : FileNumber) (left : Contents) → t ≡ (Ok left_file, left) → t.0 ≡ Ok file → left_file ≡ file
answer_file t file left_file left is told = let e : Ok left_file ≡ Ok file = ap (λ (x : Tried). x.0) (sym is) ∙ told in cc

pub no_failure : (t : Tried) (f : InitFailure) (file : FileNumber) (left : Contents) → t ≡ (Ok file, left) → t.0 ≡ Err f → ⊥
no_failure t f file left is told = let e : Ok file ≡ Err f = ap (λ (x : Tried). x.0) (sym is) ∙ told in cc

-- out of memory without a limit and a link
pub starved_unchanged : (names : FileNames) (m : Moment) (f l : Faults) (c : Contents) (after : Option Contents) → names.limit ≡ None →
    names.latest ≡ None → Starved names m f c l after → Unchanged c after
starved_unchanged names m f l c after unlimited linkless (inl same) = record {
  calls = 0;
  dirs = c.has_dirs;
  dirs_stay = λ e. e;
  left = record {
    contents = c;
    is = same.1;
    files_are = refl;
    links_stay = refl;
    open_stay = refl;
    dirs_are = refl;
    flush_stays = refl;
    comes = λ n. ap c.coming (let e : n ≡ 0 + n = omega arith in e);
  };
}
starved_unchanged names m f l c after unlimited linkless (inr (inl unpruned)) =
    absurd (subst (λ (n : Option ℕ). UnprunedBy n names f c l after) unlimited unpruned)
starved_unchanged names m f l c after unlimited linkless (inr (inr t)) =
    let missed = subst (λ (o : Option (List ℕ)). MissedFile o (name_at names m) (pruned names f c).1 after) linkless t.1 in
    subst (λ (n : Option ℕ). Unchanged (pruned_by n names f c).1 after) unlimited missed.0
