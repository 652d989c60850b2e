-- Items by number, some of them spent.
use Rattle.std.proofs.Common.{◌≡◌, ℕ, zero, suc, ◌<◌, ◌≤◌, List, [], ◌∷◌, length, get_or, Option, Some, None, refl, ap, sym, ◌∙◌, arith}
use Rattle.std.specs.Prelude.{slice_get, slice_set, Bool, true, false, if◌then◌else◌, Err, ◌==◌}
use Rattle.std.proofs.lemmas.Option.{slice_get_past, slice_get-get_or}
use Rattle.tracing_core.specs.Defaults.{reset_gives, reset_gives_at}
use Rattle.tracing_core.specs.CommandReplies.{item_of, spent_by, unspent}
use Rattle.tracing_core.specs.Table.{Table}
use Rattle.tracing_core.specs.declared.guard.DefaultGuard.{DefaultGuard}
use Rattle.tracing_core.specs.declared.guard.WrongLane.{WrongLane}
use Rattle.tracing_core.specs.declared.hub.parts.Lane.{Lane}
use Rattle.tracing_core.specs.declared.hub.parts.Lane.TheVariants.{Ended, Running}

pub none_past : {A : Type 0} (items : List (Option A)) (number : ℕ) → length items ≤ number → item_of items number ≡ None
none_past items number past = ap unspent (slice_get_past items number past)

pub item_at : {A : Type 0} (items : List (Option A)) (number : ℕ) (d : Option A) → number < length items →
    item_of items number ≡ get_or items number d
item_at items number d inside = ap unspent (slice_get-get_or items number d inside)

pub set_past : {A : Type 0} (items : List A) (number : ℕ) (item : A) → length items ≤ number → slice_set items number item ≡ items
set_past [] number item past = refl
set_past (x ∷ xs) zero item past = absurd (omega arith)
set_past (x ∷ xs) (suc number) item past = ap (λ ys. x ∷ ys) (set_past xs number item (omega arith))

spent_nothing : {A : Type 0} (items : List (Option A)) (number : ℕ) → item_of items number ≡ None → slice_set items number None ≡ items
spent_nothing [] number none = refl
spent_nothing (x ∷ xs) zero none = ap (λ y. y ∷ xs) (sym none)
spent_nothing (x ∷ xs) (suc number) none = ap (λ ys. x ∷ ys) (spent_nothing xs number none)

spent_at : {A : Type 0} (items : List (Option A)) (number : ℕ) (item : Option A) → item_of items number ≡ item →
    slice_set items number None ≡ spent_by items number item
spent_at items number None e = spent_nothing items number e
spent_at items number (Some item) e = refl

pub spent : {A : Type 0} (items : List (Option A)) (number : ℕ) → slice_set items number None ≡ spent_by items number (item_of items number)
spent items number = spent_at items number (item_of items number) refl

put_back_same : {A : Type 0} (items : List (Option A)) (number : ℕ) (item : A) → item_of items number ≡ Some item →
    slice_set (slice_set items number None) number (Some item) ≡ items
put_back_same [] number item e = absurd (cc)
put_back_same (x ∷ xs) zero item e = ap (λ y. y ∷ xs) (sym e)
put_back_same (x ∷ xs) (suc number) item e = ap (λ ys. x ∷ ys) (put_back_same xs number item e)

-- what was taken out and put back is where it was
pub back_again : {A : Type 0} (items left last : List (Option A)) (number : ℕ) (item given : A) → item_of items number ≡ Some item →
    left ≡ spent_by items number (item_of items number) → given ≡ item → last ≡ slice_set left number (Some given) → last ≡ items
back_again {A} items left last number item given there taken same put =
    put ∙ ap (λ (xs : List (Option A)). slice_set xs number (Some given)) (taken ∙ ap (spent_by items number) there)
    ∙ ap (λ (x : A). slice_set (slice_set items number None) number (Some x)) same ∙ put_back_same items number item there

wrong_at : {S C : Type 0} (t : Table S C) (lane : ℕ) (guard : DefaultGuard) (o : Option Lane) (wrong : WrongLane) →
    (reset_gives_at t lane guard o).0 ≡ Err wrong → wrong.0 ≡ guard
wrong_at t lane guard None wrong e = cc
wrong_at t lane guard (Some Ended) wrong e = absurd (cc)
wrong_at t lane guard (Some (Running setting)) wrong e = absurd (cc)

wrong_if : {S C : Type 0} (t : Table S C) (lane : ℕ) (guard : DefaultGuard) (o : Option Lane) (b : Bool) (wrong : WrongLane) →
    (if b then reset_gives_at t lane guard o else (Err (record { 0 = guard }), t)).0 ≡ Err wrong → wrong.0 ≡ guard
wrong_if t lane guard o true wrong e = wrong_at t lane guard o wrong e
wrong_if t lane guard o false wrong e = cc

-- the guard that a reset hands back is the one that it was given
pub same_guard : {S C : Type 0} (t : Table S C) (lane : ℕ) (guard : DefaultGuard) (wrong : WrongLane) →
    (reset_gives t lane guard).0 ≡ Err wrong → wrong.0 ≡ guard
same_guard t lane guard wrong e = wrong_if t lane guard (slice_get t.lanes lane) (guard.lane == lane) wrong e
