-- What retention removes, whatever the folder refuses.
use Rattle.std.specs.Prelude.{◌≡◌, ◌⊎◌, ℕ, Bool, List, [], ◌∷◌, ◌++◌, map, Option, Some, None, Result, Ok, Err}
use Rattle.std.specs.List.{filter}
use Rattle.tracing_appender_rolling.specs.declared.faults.Faults.{Faults}
use Rattle.tracing_appender_rolling.specs.declared.folders.fault.FolderError.TheVariants.{Fault, OutOfMemory}
use Rattle.tracing_appender_rolling.specs.Names.{FileNames}
use Rattle.tracing_appender_rolling.specs.folders.Contents.{Contents, Answer, Listed, called, removed, names_listed}
use Rattle.tracing_appender_rolling.specs.Faults.{after_listing, after_retention}
use Rattle.tracing_appender_rolling.specs.Retention.{PlainCandidate, candidates_in, asked_prefix, goes}

-- the names of those candidates that pass a test
abbrev pub names_by : (PlainCandidate → Bool) → List PlainCandidate → List (List ℕ)
names_by test cs = map (λ (c : PlainCandidate). c.name) (filter test cs)

-- the names of those that go
abbrev pub doomed : ℕ → List PlainCandidate → List (List ℕ)
doomed limit cs = names_by (goes limit cs) cs

-- a removal that failed is counted
abbrev pub after_removal : Faults → Answer (Unit {0}) → Faults × Contents
after_removal f (Ok done, c) = (f, c)
after_removal f (Err (Fault fault), c) = (after_retention f fault, c)
after_removal f (Err OutOfMemory, c) = (f, c)

-- one removal after another
abbrev pub removed_all : List (List ℕ) → Faults × Contents → Faults × Contents
removed_all [] at = at
removed_all (name ∷ names) at = removed_all names (after_removal at.0 (removed at.1 name))

-- the count of faults and the contents that are left
abbrev pub LeftAt : Faults × Contents → Faults → Option Contents → Type 0
LeftAt at f after = (f ≡ at.0) × (after ≡ Some at.1)

-- the names before one were removed in turn, with their faults counted, and the removal of that one found no memory
pub record Stops (names : List (List ℕ)) (f : Faults) (c : Contents) (left : Faults) (after : Option Contents) : Type 0 where
  pub before : List (List ℕ)
  pub name : List ℕ
  pub behind : List (List ℕ)
  pub are : names ≡ before ++ name ∷ behind
  pub counted : left ≡ (removed_all before (f, c)).0
  pub folder : after ≡ Some (called (removed_all before (f, c)).1)

-- the names were removed in turn, or some removal found no memory. Contents that aren't known stay so.
abbrev pub Removes : {E : Type 0} → List (List ℕ) → Faults → Option Contents → Result (Unit {0}) E → Faults → Option Contents → Type 0
Removes names f None result left after = after ≡ None
Removes names f (Some c) (Ok done) left after = LeftAt (removed_all names (f, c)) left after
Removes names f (Some c) (Err e) left after = Stops names f c left after

-- the same of those candidates that go, or there was no memory to find these
abbrev pub RemovesDoomed : {E : Type 0} → ℕ → List PlainCandidate → Faults → Option Contents → Result (Unit {0}) E → Faults →
    Option Contents → Type 0
RemovesDoomed limit cs f None result left after = after ≡ None
RemovesDoomed limit cs f (Some c) (Ok done) left after = LeftAt (removed_all (doomed limit cs) (f, c)) left after
RemovesDoomed limit cs f (Some c) (Err e) left after = LeftAt (f, c) left after ⊎ Stops (doomed limit cs) f c left after

-- a listing that was refused is counted, unless its directory isn't there, and nothing goes; after one that wasn't go the candidates that
-- retention says
abbrev pub pruned_after : FileNames → ℕ → Faults → Answer (List Listed) → Faults × Contents
pruned_after names limit f (Ok listing, c) = removed_all (doomed limit (candidates_in names listing)) (f, c)
pruned_after names limit f (Err (Fault fault), c) = (after_listing f fault, c)
pruned_after names limit f (Err OutOfMemory, c) = (f, c)

-- without a limit nothing is asked
abbrev pub pruned_by : Option ℕ → FileNames → Faults → Contents → Faults × Contents
pruned_by None names f c = (f, c)
pruned_by (Some limit) names f c = pruned_after names limit f (names_listed c (asked_prefix names))

-- the count of faults and the contents that retention leaves where memory is found
abbrev pub pruned : FileNames → Faults → Contents → Faults × Contents
pruned names f c = pruned_by names.limit names f c

-- what is left where there was no memory: without a limit nothing wants any; with one the listing found none, or what it is read with, or
-- one of the removals
abbrev pub UnprunedAfter : FileNames → ℕ → Faults → Answer (List Listed) → Faults → Option Contents → Type 0
UnprunedAfter names limit f (Ok listing, c) left after = Stops (doomed limit (candidates_in names listing)) f c left after
UnprunedAfter names limit f (Err e, c) left after = ⊥

abbrev pub UnprunedBy : Option ℕ → FileNames → Faults → Contents → Faults → Option Contents → Type 0
UnprunedBy None names f c left after = ⊥
UnprunedBy (Some limit) names f c left after = ((left ≡ f) × (after ≡ Some (called c))) ⊎
    UnprunedAfter names limit f (names_listed c (asked_prefix names)) left after

abbrev pub Unpruned : FileNames → Faults → Contents → Faults → Option Contents → Type 0
Unpruned names f c left after = UnprunedBy names.limit names f c left after

abbrev pub Prunes : {E : Type 0} → FileNames → Faults → Option Contents → Result (Unit {0}) E → Faults → Option Contents → Type 0
Prunes names f None result left after = after ≡ None
Prunes names f (Some c) (Ok done) left after = LeftAt (pruned names f c) left after
Prunes names f (Some c) (Err e) left after = Unpruned names f c left after
