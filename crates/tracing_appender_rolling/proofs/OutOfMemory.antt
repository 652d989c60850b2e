-- What is left where a call found no memory.
use Rattle.std.proofs.Common.{◌≡◌, ℕ, suc, ◌+◌, List, Bool, true, false, if◌then◌else◌, refl, ap, subst, ◌∙◌, sym, arith, inl, inr, Option}
use Rattle.std.proofs.Common.{Some, None, Result, Ok, Err}
use Rattle.tracing_core_moments.specs.declared.moment.Moment.{Moment}
use Rattle.tracing_appender_rolling.specs.declared.folders.fault.FileNumber.{FileNumber}
use Rattle.tracing_appender_rolling.specs.declared.folders.fault.FolderFault.{FolderFault}
use Rattle.tracing_appender_rolling.specs.declared.folders.fault.FolderFault.TheVariants.{Refused}
use Rattle.tracing_appender_rolling.specs.declared.folders.fault.FolderError.{FolderError}
use Rattle.tracing_appender_rolling.specs.declared.folders.fault.FolderError.TheVariants.{Fault, OutOfMemory}
use Rattle.tracing_appender_rolling.specs.folders.Contents.{Contents, Answer, Gives, Outcome, Done, Refuses, Short, Listed, called}
use Rattle.tracing_appender_rolling.specs.folders.Contents.{if_refused, refusal, file_named, link_named, open_at, open_plain, opened}
use Rattle.tracing_appender_rolling.specs.folders.Contents.{dirs_made, make_plain, names_listed}
use Rattle.tracing_appender_rolling.specs.declared.faults.Faults.{Faults}
use Rattle.tracing_appender_rolling.specs.declared.init.InitContext.TheVariants.{Directory, File}
use Rattle.tracing_appender_rolling.specs.declared.init.InitFailure.{InitFailure}
use Rattle.tracing_appender_rolling.specs.Names.{FileNames}
use Rattle.tracing_appender_rolling.specs.Writes.{Fruitless}
use Rattle.tracing_appender_rolling.specs.Retention.{asked_prefix}
use Rattle.tracing_appender_rolling.specs.RetentionRemovals.{UnprunedAfter, UnprunedBy, pruned}
use Rattle.tracing_appender_rolling.specs.Tries.{Tried, Tries, MissedFile, MissesOr, Gave, failure, after_dirs, made_again, after_opening}
use Rattle.tracing_appender_rolling.specs.Tries.{last_opening, opened_twice}
use Rattle.tracing_appender_rolling.specs.Looks.{Starved, name_at}

-- calls that changed nothing
unchanged_called : (c : Contents) (after : Option Contents) → after ≡ Some (called c) → Fruitless c after
unchanged_called c after left = (
  record {
    calls = 1;
    dirs = c.has_dirs;
    dirs_stay = λ e. e;
    left = record {
      contents = called c;
      is = left;
      files_are = refl;
      links_stay = refl;
      open_stay = refl;
      dirs_are = refl;
      flush_stays =
          refl;
      comes = λ n. ap c.coming (let same : suc n ≡ 1 + n = omega arith in same);
    };
  },
  omega arith,
)

unchanged_then : (c : Contents) (made : Bool) (after : Option Contents) → (c.has_dirs ≡ true → made ≡ true) →
    Fruitless (record (called c) { has_dirs = made }) after → Fruitless c after
unchanged_then c made after stay (u, some) = (
  record {
    calls = suc u.calls;
    dirs = u.dirs;
    dirs_stay = λ e. u.dirs_stay (stay e);
    left = record {
      contents = u.left.contents;
      is = u.left.is;
      files_are = u.left.files_are;
      links_stay = u.left.links_stay;
      open_stay = u.left.open_stay;
      dirs_are = u.left.dirs_are;
      flush_stays = u.left.flush_stays;
      comes = λ n. u.left.comes n ∙ ap c.coming (let same : suc (u.calls + n) ≡ suc u.calls + n = omega arith in same);
    };
  },
  omega arith,
)

-- an opening that was refused changes nothing
refused_at : (c : Contents) (name : List ℕ) (fault : FolderFault) (found : Option ℕ) → (open_at c name found).0 ≡ Err (Fault fault) →
    (open_at c name found).1 ≡ called c
refused_at c name fault None told = cc
refused_at c name fault (Some place) told = cc

refused_plain : (c : Contents) (name : List ℕ) (fault : FolderFault) (linked : Bool) →
    (if linked then refusal Refused c else open_at c name (file_named name c.files)).0 ≡ Err (Fault fault) →
    (if linked then refusal Refused c else open_at c name (file_named name c.files)).1 ≡ called c
refused_plain c name fault true told = refl
refused_plain c name fault false told = refused_at c name fault (file_named name c.files) told

refused_by : (c : Contents) (name : List ℕ) (fault : FolderFault) (o : Outcome) →
    (if_refused o (λ e. refusal e c) (open_plain name c)).0 ≡ Err (Fault fault) →
    (if_refused o (λ e. refusal e c) (open_plain name c)).1 ≡ called c
refused_by c name fault (Refuses e) told = refl
refused_by c name fault Done told = refused_plain c name fault (link_named name c.links) told
refused_by c name fault (Short most) told = refused_plain c name fault (link_named name c.links) told

opening_refused : (c : Contents) (name : List ℕ) (fault : FolderFault) → (opened c name).0 ≡ Err (Fault fault) →
    (opened c name).1 ≡ called c
opening_refused c name fault told = refused_by c name fault (c.coming 0) told

made_by : (c : Contents) (done : Unit {0}) (o : Outcome) → (if_refused o (λ e. refusal e c) (make_plain c)).0 ≡ Ok done →
    (if_refused o (λ e. refusal e c) (make_plain c)).1 ≡ record (called c) { has_dirs = true }
made_by c done (Refuses e) told = cc
made_by c done Done told = refl
made_by c done (Short most) told = refl

made_leaves : (c : Contents) (done : Unit {0}) → (dirs_made c).0 ≡ Ok done → (dirs_made c).1 ≡ record (called c) { has_dirs = true }
made_leaves c done told = made_by c done (c.coming 0) told

-- the making of directories
dirs_fault : (name : List ℕ) (a : Answer (Unit {0})) (fault : FolderFault) → a.0 ≡ Err (Fault fault) →
    after_dirs name a ≡ (Err (failure Directory (Fault fault)), a.1)
dirs_fault name (Ok done, c) fault told = cc
dirs_fault name (Err e, c) fault told = let same : e ≡ Fault fault = cc in ap (λ (x : FolderError). (Err (failure Directory x), c)) same

dirs_done : (name : List ℕ) (a : Answer (Unit {0})) (done : Unit {0}) → a.0 ≡ Ok done → after_dirs name a ≡ last_opening (opened a.1 name)
dirs_done name (Ok d, c) done told = refl
dirs_done name (Err e, c) done told = cc

pub dirs_err : (name : List ℕ) (known after : Option Contents) (e : FolderError) → Gives dirs_made known (Err e) after →
    Tries Fruitless (made_again name) known (Err (failure Directory e)) after
dirs_err name None after e left = left
dirs_err name (Some c) after OutOfMemory left = unchanged_called c after left
dirs_err name (Some c) after (Fault fault) (answer, left) =
    let is = dirs_fault name (dirs_made c) fault answer in (ap (λ (t : Tried). t.0) is, left ∙ sym (ap (λ (t : Tried). Some t.1) is))

-- the second opening
last_fault : (a : Answer FileNumber) (fault : FolderFault) → a.0 ≡ Err (Fault fault) →
    last_opening a ≡ (Err (failure File (Fault fault)), a.1)
last_fault (Ok file, c) fault told = cc
last_fault (Err e, c) fault told = let same : e ≡ Fault fault = cc in ap (λ (x : FolderError). (Err (failure File x), c)) same

last_err : (name : List ℕ) (c : Contents) (done : Unit {0}) (after : Option Contents) (e : FolderError) → (dirs_made c).0 ≡ Ok done →
    Gives (λ x. opened x name) (Some (dirs_made c).1) (Err e) after → Gave (Fruitless c) (made_again name c) (Err (failure File e)) after
last_err name c done after OutOfMemory told left =
    unchanged_then c true after (λ e. refl)
    (unchanged_called (record (called c) { has_dirs = true }) after
    (left ∙ ap (λ (d : Contents). Some (called d)) (made_leaves c done told)))
last_err name c done after (Fault fault) told (answer, left) =
    let is = dirs_done name (dirs_made c) done told ∙ last_fault (opened (dirs_made c).1 name) fault answer in
    (ap (λ (t : Tried). t.0) is, left ∙ sym (ap (λ (t : Tried). Some t.1) is))

pub made_err : (name : List ℕ) (known middle after : Option Contents) (done : Unit {0}) (e : FolderError) →
    Gives dirs_made known (Ok done) middle → Gives (λ c. opened c name) middle (Err e) after →
    Tries Fruitless (made_again name) known (Err (failure File e)) after
made_err name None middle after done OutOfMemory none left =
    subst (λ (o : Option Contents). Gives (λ c. opened c name) o (Err OutOfMemory) after) none left
made_err name None middle after done (Fault fault) none left =
    subst (λ (o : Option Contents). Gives (λ c. opened c name) o (Err (Fault fault)) after) none left
made_err name (Some c) middle after done e (told, made) left =
    last_err name c done after e told (subst (λ (o : Option Contents). Gives (λ x. opened x name) o (Err e) after) made left)

-- the first opening
opening_fault : (name : List ℕ) (a : Answer FileNumber) (fault : FolderFault) → a.0 ≡ Err (Fault fault) →
    after_opening name a ≡ made_again name a.1
opening_fault name (Ok file, c) fault told = cc
opening_fault name (Err e, c) fault told = refl

gave_then : (t : Tried) (missed also : Option Contents → Type 0) (r : Result FileNumber InitFailure) (after : Option Contents) →
    (missed after → also after) → Gave missed t r after → Gave also t r after
gave_then t missed also (Ok file) after more gave = gave
gave_then t missed also (Err f) after more gave = by_error f.error gave
  where
    by_error : (e : FolderError) → MissesOr missed t f e after → MissesOr also t f e after
    by_error OutOfMemory misses = more misses
    by_error (Fault fault) answered = answered

pub twice_again : (name : List ℕ) (known middle after : Option Contents) (fault : FolderFault) (r : Result FileNumber InitFailure) →
    Gives (λ c. opened c name) known (Err (Fault fault)) middle → Tries Fruitless (made_again name) middle r after →
    Tries Fruitless (opened_twice name) known r after
twice_again name None middle after fault r none tries = subst (λ (o : Option Contents). Tries Fruitless (made_again name) o r after) none
    tries
twice_again name (Some c) middle after fault r (told, left) tries =
    let gave = subst (λ (o : Option Contents). Tries Fruitless (made_again name) o r after) left tries in
    let same = opening_refused c name fault told in
    subst (λ (t : Tried). Gave (Fruitless c) t r after) (sym (opening_fault name (opened c name) fault told))
    (gave_then (made_again name (opened c name).1) (Fruitless (opened c name).1) (Fruitless c) r after
    (λ u. unchanged_then c c.has_dirs after (λ e. e) (subst (λ (d : Contents). Fruitless d after) same u)) gave)

pub twice_starved : (name : List ℕ) (known after : Option Contents) (f : InitFailure) → f.error ≡ OutOfMemory →
    Gives (λ c. opened c name) known (Err OutOfMemory) after → Tries Fruitless (opened_twice name) known (Err f) after
twice_starved name None after f starved left = left
twice_starved name (Some c) after f starved left = subst (λ (e : FolderError). MissesOr (Fruitless c) (opened_twice name c) f e after)
    (sym starved) (unchanged_called c after left)

-- known contents stay known
pub starved_known : (names : FileNames) (m : Moment) (f l : Faults) (c : Contents) (after : Option Contents) → Starved names m f c l after →
    (d : Contents) × (after ≡ Some d)
starved_known names m f l c after (inl same) = (c, same.1)
starved_known names m f l c after (inr (inl u)) = by_limit names.limit u
  where
    by_listing : (limit : ℕ) (a : Answer (List Listed)) → UnprunedAfter names limit f a l after → (d : Contents) × (after ≡ Some d)
    by_listing limit (Ok listing, x) stops = (_, stops.folder)
    by_listing limit (Err e, x) u = absurd u

    by_limit : (limit : Option ℕ) → UnprunedBy limit names f c l after → (d : Contents) × (after ≡ Some d)
    by_limit None u = absurd u
    by_limit (Some limit) (inl left) = (called c, left.1)
    by_limit (Some limit) (inr u) = by_listing limit (names_listed c (asked_prefix names)) u
starved_known names m f l c after (inr (inr t)) = by_latest names.latest t.1
  where
    by_latest : (latest : Option (List ℕ)) → MissedFile latest (name_at names m) (pruned names f c).1 after → (d : Contents) ×
        (after ≡ Some d)
    by_latest None (u, some) = (u.left.contents, u.left.is)
    by_latest (Some link) (inl (u, some)) = (u.left.contents, u.left.is)
    by_latest (Some link) (inr u) = (_, u.left)
