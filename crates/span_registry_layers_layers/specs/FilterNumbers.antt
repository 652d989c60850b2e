-- The filters of a tree of layers, by their numbers in a registry, and what they say of a span.
use Rattle.std.specs.Prelude.{◌≡◌, ◌<◌, ◌+◌, ◌-◌, ℕ, zero, suc, nat_le, Bool, false, if◌then◌else◌, List, [], ◌∷◌, Option, Some, None, refl}
use Rattle.std.proofs.Common.{ap, ◌∙◌}
use Rattle.span_registry_layers_store.specs.Registries.{RegistryValue}
use Rattle.span_registry_layers_store.specs.Spans.{is_member}
use Rattle.span_registry_layers_store.specs.Verdicts.{passes_at}
use Rattle.span_registry_layers_layers.specs.Notices.{Attached, Called, Dispatched, Notice}

-- what is left of a room for filters, where there is enough
abbrev pub room_after : ℕ → ℕ → Option ℕ
room_after room count = if nat_le count room then Some (room - count) else None

-- so many numbers, from the first one on
abbrev pub numbers_from : ℕ → ℕ → List ℕ
numbers_from first zero = []
numbers_from first (suc count) = first ∷ numbers_from (first + 1) count

-- each is below the limit, and none stands twice
abbrev pub AreNumbers : ℕ → List ℕ → Type 0
AreNumbers limit [] = Unit {0}
AreNumbers limit (n ∷ ns) = (n < limit) × (is_member ns n ≡ false) × AreNumbers limit ns

-- these filters say the same
abbrev pub SameOf : List ℕ → List Bool → List Bool → Type 0
SameOf [] a b = Unit {0}
SameOf (n ∷ ns) a b = (passes_at b n ≡ passes_at a n) × SameOf ns a b

-- all other filters say the same
abbrev pub SameBut : List ℕ → List Bool → List Bool → Type 0
SameBut ns a b = (n : ℕ) → is_member ns n ≡ false → passes_at b n ≡ passes_at a n

-- the registry has so many more filters
abbrev pub more_filters : ℕ → RegistryValue → RegistryValue
more_filters count x = record x { filters = x.filters + count }

-- filters keep their numbers, whatever they are told but that they are attached
abbrev pub NumbersStay : Notice → List ℕ → List ℕ → Type 0
NumbersStay (Called said v y) before after = after ≡ before
NumbersStay (Dispatched handle) before after = after ≡ before
NumbersStay (Attached x) before after = Unit {0}

both_equal : (ns ms : List ℕ) (f h : List ℕ → List ℕ) → h ≡ f → ms ≡ ns → h ms ≡ f ns
both_equal ns ms f h same e = ap (λ (k : List ℕ → List ℕ). k ms) same ∙ ap f e

pub equal_numbers : (n : Notice) (ns ms : List ℕ) → ms ≡ ns → NumbersStay n ns ms
equal_numbers (Called said v y) ns ms e = e
equal_numbers (Dispatched handle) ns ms e = e
equal_numbers (Attached x) ns ms e = tt

-- with a number of its own before them
pub numbers_still : (n : Notice) (ns ms : List ℕ) (f h : List ℕ → List ℕ) → h ≡ f → NumbersStay n ns ms → NumbersStay n (f ns) (h ms)
numbers_still (Called said v y) ns ms f h same e = both_equal ns ms f h same e
numbers_still (Dispatched handle) ns ms f h same e = both_equal ns ms f h same e
numbers_still (Attached x) ns ms f h same e = tt

-- of what has no filters
pub no_numbers : (n : Notice) → NumbersStay n [] []
no_numbers n = equal_numbers n [] [] refl
