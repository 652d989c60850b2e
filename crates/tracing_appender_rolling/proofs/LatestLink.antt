-- A link to the latest file, over a folder that refuses nothing.
use Rattle.std.proofs.Common.{◌≡◌, ◌≢◌, ℕ, zero, suc, ◌+◌, Bool, true, false, cond, List, [], ◌∷◌, ◌++◌, refl, ap, subst, sym, ◌∙◌, arith}
use Rattle.std.proofs.Common.{Option, Some, None, Ok}
use Rattle.std.specs.Prelude.{is_some, slice_set}
use Rattle.std.specs.List.{position_from}
use Rattle.std.specs.Str.{bytes_eq}
use Rattle.std.proofs.lemmas.Bool.{false_from_ne_true}
use Rattle.std.proofs.lemmas.Slice.Eq.{bytes_eq-Decides}
use Rattle.tracing_appender_rolling.specs.declared.folders.fault.FileNumber.{FileNumber}
use Rattle.tracing_appender_rolling.specs.declared.folders.fault.FolderFault.TheVariants.{Refused}
use Rattle.tracing_appender_rolling.specs.folders.Contents.{Contents, Outcome, IsSound, called, file_named, link_place, link_named}
use Rattle.tracing_appender_rolling.specs.folders.Contents.{bytes_at, if_refused, refusal, links_with, link_plain, linked}
use Rattle.tracing_appender_rolling.specs.folders.Memory.{target_at}
use Rattle.tracing_appender_rolling.proofs.folders.Content.{after_line}
use Rattle.tracing_appender_rolling.specs.Tries.{Tried, opened_linked, after_file, after_link}
use Rattle.tracing_appender_rolling.specs.PrunedSinks.{StandOnce, Leads, LinkFree}
use Rattle.tracing_appender_rolling.proofs.RetainedFiles.{named_none}
use Rattle.tracing_appender_rolling.proofs.FaultlessTry.{sound_try}

abbrev Links : Type 0
Links = List (List ℕ × List ℕ)

abbrev is_at : List ℕ → List ℕ × List ℕ → Bool
is_at q l = bytes_eq l.0 q

-- the link under a name is at a place, and none before it
abbrev LiesAt : List ℕ → Links → ℕ → Type 0
LiesAt q [] i = ⊥
LiesAt q (l ∷ ls) zero = is_at q l ≡ true
LiesAt q (l ∷ ls) (suc i) = (is_at q l ≡ false) × LiesAt q ls i

lies_first : (q : List ℕ) (l : List ℕ × List ℕ) (ls : Links) (k j : ℕ) →
    ((m : ℕ) → position_from (is_at q) (k + 1) ls ≡ Some m → (i : ℕ) × (m ≡ (k + 1) + i) × LiesAt q ls i) → (b : Bool) → is_at q l ≡ b →
    cond b (Some k) (position_from (is_at q) (k + 1) ls) ≡ Some j → (i : ℕ) × (j ≡ k + i) × LiesAt q (l ∷ ls) i
lies_first q l ls k j rest true is e = let same : k ≡ j = cc in (0, omega (arith, same), is)
lies_first q l ls k j rest false is e = let r = rest j e in (suc r.0, omega (arith, r.1), (is, r.2))

lies : (q : List ℕ) (ls : Links) (k j : ℕ) → position_from (is_at q) k ls ≡ Some j → (i : ℕ) × (j ≡ k + i) × LiesAt q ls i
lies q [] k j e = cc
lies q (l ∷ ls) k j e = lies_first q l ls k j (λ m h. lies q ls (k + 1) m h) (is_at q l) refl e

-- a link that stands under the name in its place
replaced : (q target : List ℕ) (ls : Links) (i : ℕ) → LiesAt q ls i → target_at (slice_set ls i (q, target)) q ≡ Some target
replaced q target [] i h = absurd h
replaced q target (l ∷ ls) zero h = ap (λ b. cond b (Some target) (target_at ls q)) ((bytes_eq-Decides q q).1 refl)
replaced q target (l ∷ ls) (suc i) h = ap (λ b. cond b (Some l.1) (target_at (slice_set ls i (q, target)) q)) h.0 ∙
    replaced q target ls i h.1

none_links : (q : List ℕ) (l : List ℕ × List ℕ) (ls : Links) (k : ℕ) (b : Bool) → is_at q l ≡ b →
    cond b (Some k) (position_from (is_at q) (k + 1) ls) ≡ None → (is_at q l ≡ false) × (position_from (is_at q) (k + 1) ls ≡ None)
none_links q l ls k true is e = cc
none_links q l ls k false is e = (is, e)

put_last : (q target : List ℕ) (ls : Links) (k : ℕ) → position_from (is_at q) k ls ≡ None →
    target_at (ls ++ (q, target) ∷ []) q ≡ Some target
put_last q target [] k e = ap (λ b. cond b (Some target) None) ((bytes_eq-Decides q q).1 refl)
put_last q target (l ∷ ls) k e =
    let s = none_links q l ls k (is_at q l) refl e in
    ap (λ b. cond b (Some l.1) (target_at (ls ++ (q, target) ∷ []) q)) s.0 ∙ put_last q target ls (k + 1) s.1

pub leads_there : (q target : List ℕ) (ls : Links) → target_at (links_with ls (link_place q ls) (q, target)) q ≡ Some target
leads_there q target ls = by_case (link_place q ls) refl
  where
    by_case : (o : Option ℕ) → link_place q ls ≡ o → target_at (links_with ls o (q, target)) q ≡ Some target
    by_case None is = put_last q target ls 0 is
    by_case (Some j) is = let r = lies q ls 0 j is in let same : j ≡ r.0 = omega (arith, r.1) in
        subst (λ n. target_at (slice_set ls n (q, target)) q ≡ Some target) (sym same) (replaced q target ls r.0 r.2)

-- and no other name has a link that had none
free_last : (q other target : List ℕ) (ls : Links) (k : ℕ) → bytes_eq q other ≡ false → position_from (is_at other) k ls ≡ None →
    position_from (is_at other) k (ls ++ (q, target) ∷ []) ≡ None
free_last q other target [] k apart e = ap (λ b. cond b (Some k) None) apart
free_last q other target (l ∷ ls) k apart e =
    let s = none_links other l ls k (is_at other l) refl e in
    ap (λ b. cond b (Some k) (position_from (is_at other) (k + 1) (ls ++ (q, target) ∷ []))) s.0 ∙
    free_last q other target ls (k + 1) apart s.1

free_set : (q other target : List ℕ) (ls : Links) (k i : ℕ) → bytes_eq q other ≡ false → position_from (is_at other) k ls ≡ None →
    position_from (is_at other) k (slice_set ls i (q, target)) ≡ None
free_set q other target [] k zero apart e = refl
free_set q other target [] k (suc i) apart e = refl
free_set q other target (l ∷ ls) k zero apart e =
    let s = none_links other l ls k (is_at other l) refl e in
    ap (λ b. cond b (Some k) (position_from (is_at other) (k + 1) ls)) apart ∙ s.1
free_set q other target (l ∷ ls) k (suc i) apart e =
    let s = none_links other l ls k (is_at other l) refl e in
    ap (λ b. cond b (Some k) (position_from (is_at other) (k + 1) (slice_set ls i (q, target)))) s.0 ∙
    free_set q other target ls (k + 1) i apart s.1

not_some : (o : Option ℕ) → is_some o ≡ false → o ≡ None
not_some None e = refl
not_some (Some i) e = cc

pub others_free : (q other target : List ℕ) (ls : Links) → q ≢ other → link_named other ls ≡ false →
    link_named other (links_with ls (link_place q ls) (q, target)) ≡ false
others_free q other target ls apart free = ap is_some (by_case (link_place q ls))
  where
    miss : bytes_eq q other ≡ false
    miss = false_from_ne_true (bytes_eq q other) (λ same. apart ((bytes_eq-Decides q other).0 same))

    none : position_from (is_at other) 0 ls ≡ None
    none = not_some (link_place other ls) free

    by_case : (o : Option ℕ) → link_place other (links_with ls o (q, target)) ≡ None
    by_case None = free_last q other target ls 0 miss none
    by_case (Some i) = free_set q other target ls 0 i miss none

-- a link is made where no file stands under its name
linked_is : (c : Contents) (link target : List ℕ) → IsSound c → bytes_at c.files link ≡ None →
    linked c link target ≡ (Ok tt, record (called c) { links = links_with c.links (link_place link c.links) (link, target) })
linked_is c link target sound free =
    ap (λ (o : Outcome). if_refused o (λ e. refusal e c) (link_plain link target c)) (sound 0)
    ∙ ap (λ (o : Option ℕ). cond (is_some o) (refusal Refused c)
    (Ok tt, record (called c) { links = links_with c.links (link_place link c.links) (link, target) })) (named_none link c.files 0 free)

-- a try over a sound folder that opens the name's file and leads the link to it
pub record LinkedTry (latest : Option (List ℕ)) (c : Contents) (name : List ℕ) (t : Tried) : Type 0 where
  pub file : FileNumber
  pub left : Contents
  pub is : t ≡ (Ok file, left)
  pub stands : file_named name left.files ≡ Some file.index
  pub sound : IsSound left
  pub once : StandOnce c.files → StandOnce left.files
  pub bytes : (other : List ℕ) → bytes_at left.files other ≡ after_line (bytes_eq name other) (bytes_at c.files other) []
  pub free : (other : List ℕ) → latest ≢ Some other → link_named other c.links ≡ false → link_named other left.links ≡ false
  pub leads : Leads latest name left
  pub open_files : left.open_files ≡ c.open_files ++ file.index ∷ []

-- from what a sink knows of its link
pub latest_try : (latest : Option (List ℕ)) (c : Contents) (name : List ℕ) → IsSound c → link_named name c.links ≡ false →
    latest ≢ Some name → LinkFree latest c → LinkedTry latest c name (opened_linked latest name c)
latest_try None c name sound free differs none =
    let t = sound_try c name sound free in
    record {
      file = t.file;
      left = t.left;
      is = t.is;
      stands = t.opens.stands;
      sound = t.opens.sound;
      once = t.opens.once;
      bytes = t.opens.bytes;
      free = λ other apart no. ap (link_named other) t.opens.links ∙ no;
      leads = tt;
      open_files = t.opens.open_files;
    }
latest_try (Some link) c name sound free differs none =
    let t = sound_try c name sound free in
    let apart = false_from_ne_true (bytes_eq name link)
    (λ same. differs (ap (λ (q : List ℕ). Some q) (sym ((bytes_eq-Decides name link).0 same)))) in
    let bare : bytes_at t.left.files link ≡ None = t.opens.bytes link ∙ ap (λ b. after_line b (bytes_at c.files link) []) apart ∙ none in
    let made = linked_is t.left link name t.opens.sound bare in
    let left : Contents = record (called t.left) { links = links_with t.left.links (link_place link t.left.links) (link, name) } in
    record {
      file = t.file;
      left = left;
      is = ap (after_file link name) t.is ∙ ap (after_link t.file) made;
      stands = t.opens.stands;
      sound = λ k. t.opens.sound (suc k);
      once = t.opens.once;
      bytes = t.opens.bytes;
      free = λ other others no. others_free link other name t.left.links (λ same. others (ap (λ (q : List ℕ). Some q) same))
          (ap (link_named other) t.opens.links ∙ no);
      leads = (bare, leads_there link name t.left.links);
      open_files = t.opens.open_files;
    }
