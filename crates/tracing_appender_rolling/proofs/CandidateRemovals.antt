-- Candidates one after another, and removals one after another.
use Rattle.std.proofs.Common.{◌≡◌, ℕ, ◌+◌, ◌<◌, Bool, List, [], ◌∷◌, ◌++◌, length, map, take, drop, get_or, append_assoc, refl, ap, subst}
use Rattle.std.proofs.Common.{sym, ◌∙◌, Option, Some, None, Result, Ok, Err}
use Rattle.std.specs.List.{filter}
use Rattle.std.proofs.lemmas.List.{take_more, map-append, take-append-drop}
use Rattle.std.proofs.lemmas.List.Elements.{filter-append}
use Rattle.tracing_core_moments.specs.declared.moment.Moment.{Moment}
use Rattle.tracing_appender_rolling.specs.declared.folders.fault.Entry.{Entry}
use Rattle.tracing_appender_rolling.specs.declared.faults.Faults.{Faults}
use Rattle.tracing_appender_rolling.specs.declared.retention.Candidate.{Candidate}
use Rattle.tracing_appender_rolling.specs.Names.{FileNames}
use Rattle.tracing_appender_rolling.specs.folders.Contents.{Contents, Gives, Listed, called, removed}
use Rattle.tracing_appender_rolling.specs.declared.folders.fault.FolderError.TheVariants.{OutOfMemory}
use Rattle.tracing_appender_rolling.specs.folders.ListedEntries.{listed_of}
use Rattle.tracing_appender_rolling.specs.Retention.{PlainCandidate, candidate_of, with_candidate, made_of, date_in, candidate_first}
use Rattle.tracing_appender_rolling.specs.Retention.{candidates_in}
use Rattle.tracing_appender_rolling.specs.RetentionRemovals.{names_by, removed_all, Removes, LeftAt}

added_behind : (name : List ℕ) (made : Option Moment) (rest more : List PlainCandidate) → with_candidate name made rest ++
    more ≡ with_candidate name made (rest ++ more)
added_behind name None rest more = refl
added_behind name (Some m) rest more = refl

one_more : (names : FileNames) (ls : List Listed) (l : Listed) → candidates_in names (ls ++ l ∷ []) ≡ candidates_in names ls ++
    candidate_first names l []
one_more names [] l = refl
one_more names (k ∷ ks) l =
    ap (candidate_first names k) (one_more names ks l) ∙
    sym (added_behind k.name (made_of names k (date_in names k.name)) (candidates_in names ks) (candidate_first names l []))

pub candidates_more : (names : FileNames) (entries : List Entry) (i : ℕ) (e : Entry) (old new : List PlainCandidate) → i < length entries →
    e ≡ get_or entries i e → old ≡ candidates_in names (map listed_of (take i entries)) → new ≡ old ++
    candidate_first names (listed_of e) [] → new ≡ candidates_in names (map listed_of (take (i + 1) entries))
candidates_more names entries i e old new lt is so added =
    let grown : map listed_of (take (i + 1) entries) ≡ map listed_of (take i entries) ++ listed_of e ∷ [] =
    ap (map listed_of) (take_more entries i e lt ∙ ap (λ (x : Entry). take i entries ++ x ∷ []) (sym is)) ∙
    map-append listed_of (take i entries) (e ∷ []) in
    added ∙ ap (λ (cs : List PlainCandidate). cs ++ candidate_first names (listed_of e) []) so ∙
    sym (one_more names (map listed_of (take i entries)) (listed_of e)) ∙ sym (ap (candidates_in names) grown)

removed_both : (xs ys : List (List ℕ)) (at : Faults × Contents) → removed_all (xs ++ ys) at ≡ removed_all ys (removed_all xs at)
removed_both [] ys at = refl
removed_both (x ∷ xs) ys at = removed_both xs ys _

module _ (E : Type 0) (xs ys : List (List ℕ)) (f g h : Faults) where
  known_then : (c d : Contents) (r : Result (Unit {0}) E) (after : Option Contents) → LeftAt (removed_all xs (f, c)) g (Some d) →
      Removes ys g (Some d) r h after → Removes (xs ++ ys) f (Some c) r h after
  known_then c d (Err e) after (count, there) more =
      let here : d ≡ (removed_all xs (f, c)).1 = cc in
      let at : (g, d) ≡ removed_all xs (f, c) = ap (λ k. (k, d)) count ∙ ap (λ k. ((removed_all xs (f, c)).0, k)) here in
      record {
        before = xs ++ more.before;
        name = more.name;
        behind = more.behind;
        are = ap (λ (zs : List (List ℕ)). xs ++ zs) more.are ∙ sym (append_assoc xs more.before (more.name ∷ more.behind));
        counted = more.counted ∙ ap (λ p. (removed_all more.before p).0) at ∙ sym (ap (λ p. p.0) (removed_both xs more.before (f, c)));
        folder = more.folder ∙ ap (λ p. Some (called (removed_all more.before p).1)) at ∙
            sym (ap (λ p. Some (called p.1)) (removed_both xs more.before (f, c)));
      }
  known_then c d (Ok done) after (count, there) more =
      let here : d ≡ (removed_all xs (f, c)).1 = cc in
      let at : (g, d) ≡ removed_all xs (f, c) = ap (λ k. (k, d)) count ∙ ap (λ k. ((removed_all xs (f, c)).0, k)) here in
      let both : removed_all ys (g, d) ≡ removed_all (xs ++ ys) (f, c) = ap (removed_all ys) at ∙ sym (removed_both xs ys (f, c)) in
      subst (λ p. LeftAt p h after) both more

  pub removes_then : (known middle after : Option Contents) (done : Unit {0}) (r : Result (Unit {0}) E) →
      Removes {E = E} xs f known (Ok done) g middle → Removes ys g middle r h after → Removes (xs ++ ys) f known r h after
  removes_then None middle after done (Ok more_done) left more =
      subst (λ (o : Option Contents). Removes {E = E} ys g o (Ok more_done) h after) left more
  removes_then None middle after done (Err e) left more = subst (λ (o : Option Contents). Removes {E = E} ys g o (Err e) h after) left more
  removes_then (Some c) middle after done r left more =
      let is = left.1 in
      known_then c (removed_all xs (f, c)).1 r after (left.0, refl)
      (subst (λ (o : Option Contents). Removes {E = E} ys g o r h after) is more)

names_both : (test : PlainCandidate → Bool) (xs ys : List Candidate) →
    names_by test (map candidate_of (xs ++ ys)) ≡ names_by test (map candidate_of xs) ++ names_by test (map candidate_of ys)
names_both test xs ys =
    ap (names_by test) (map-append candidate_of xs ys)
    ∙ ap (map (λ (x : PlainCandidate). x.name)) (filter-append test (map candidate_of xs) (map candidate_of ys))
    ∙ map-append (λ (x : PlainCandidate). x.name) (filter test (map candidate_of xs)) (filter test (map candidate_of ys))

names_more : (test : PlainCandidate → Bool) (all : List Candidate) (i : ℕ) (d : Candidate) → i < length all →
    names_by test (map candidate_of (take (i + 1) all)) ≡ names_by test (map candidate_of (take i all)) ++
    names_by test (candidate_of (get_or all i d) ∷ [])
names_more test all i d lt = ap (λ (xs : List Candidate). names_by test (map candidate_of xs)) (take_more all i d lt) ∙
    names_both test (take i all) (get_or all i d ∷ [])

pub removes_none : (E : Type 0) (f : Faults) (known : Option Contents) → Removes {E = E} [] f known (Ok tt) f known
removes_none E f None = refl
removes_none E f (Some c) = (refl, refl)

pub removes_next : (E : Type 0) (test : PlainCandidate → Bool) (all : List Candidate) (i : ℕ) (d : Candidate) (f g h : Faults)
    (known middle after : Option Contents) → i < length all →
    Removes {E = E} (names_by test (map candidate_of (take i all))) f known (Ok tt) g middle →
    Removes {E = E} (names_by test (candidate_of (get_or all i d) ∷ [])) g middle (Ok tt) h after →
    Removes {E = E} (names_by test (map candidate_of (take (i + 1) all))) f known (Ok tt) h after
removes_next E test all i d f g h known middle after lt left next =
    subst (λ (names : List (List ℕ)). Removes {E = E} names f known (Ok tt) h after) (sym (names_more test all i d lt))
    (removes_then E (names_by test (map candidate_of (take i all))) (names_by test (candidate_of (get_or all i d) ∷ [])) f g h known middle
    after tt (Ok tt) left next)

-- a removal that found no memory
pub stops_at : (E : Type 0) (name : List ℕ) (f : Faults) (known after : Option Contents) (e : E) →
    Gives (λ c. removed c name) known (Err OutOfMemory) after → Removes {E = E} (name ∷ []) f known (Err e) f after
stops_at E name f None after e left = left
stops_at E name f (Some c) after e left = record { before = []; name = name; behind = []; are = refl; counted = refl; folder = left }

stops_more : (E : Type 0) (xs ys : List (List ℕ)) (f l : Faults) (known after : Option Contents) (e : E) →
    Removes {E = E} xs f known (Err e) l after → Removes {E = E} (xs ++ ys) f known (Err e) l after
stops_more E xs ys f l None after e left = left
stops_more E xs ys f l (Some c) after e stops = record {
  before = stops.before;
  name = stops.name;
  behind = stops.behind ++ ys;
  are = ap (λ (zs : List (List ℕ)). zs ++ ys) stops.are ∙ append_assoc stops.before (stops.name ∷ stops.behind) ys;
  counted = stops.counted;
  folder = stops.folder;
}

pub removes_stop : (E : Type 0) (test : PlainCandidate → Bool) (all : List Candidate) (i : ℕ) (d : Candidate) (f g h : Faults)
    (known middle after : Option Contents) (e : E) → i < length all →
    Removes {E = E} (names_by test (map candidate_of (take i all))) f known (Ok tt) g middle →
    Removes {E = E} (names_by test (candidate_of (get_or all i d) ∷ [])) g middle (Err e) h after →
    Removes {E = E} (names_by test (map candidate_of all)) f known (Err e) h after
removes_stop E test all i d f g h known middle after e lt left next =
    let first = names_by test (map candidate_of (take (i + 1) all)) in
    let rest = names_by test (map candidate_of (drop (i + 1) all)) in
    let here : Removes {E = E} first f known (Err e) h after =
    subst (λ (names : List (List ℕ)). Removes {E = E} names f known (Err e) h after) (sym (names_more test all i d lt))
    (removes_then E (names_by test (map candidate_of (take i all))) (names_by test (candidate_of (get_or all i d) ∷ [])) f g h known middle
    after tt (Err e) left next) in
    subst (λ (names : List (List ℕ)). Removes {E = E} names f known (Err e) h after)
    (sym (names_both test (take (i + 1) all) (drop (i + 1) all)) ∙ ap (λ (xs : List Candidate). names_by test (map candidate_of xs))
    (take-append-drop (i + 1) all))
    (stops_more E first rest f h known after e here)
