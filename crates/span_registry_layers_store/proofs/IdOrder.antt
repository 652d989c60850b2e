-- Spans whose ids rise, and a search by halves among them.
use Rattle.std.proofs.Common.{◌≡◌, inl, inr, ℕ, zero, suc, ◌+◌, ◌<◌, ◌≤◌, ◌==◌, List, [], ◌∷◌, ◌++◌, length, map, Bool, true, false}
use Rattle.std.proofs.Common.{if◌then◌else◌, slice_index_or, Ok, Err, refl, sym, ap, ◌∙◌, subst, arith}
use Rattle.std.specs.List.{AllByRecursion}
use Rattle.std.specs.List.Sorted.{IsBinarySearchResult, IsNonDecreasingBy}
use Rattle.std.specs.Ordering.{nat_cmp, ordering_index}
use Rattle.std.proofs.lemmas.Bool.{cases_lt}
use Rattle.std.proofs.lemmas.Bool.Decides.{nat_tests}
use Rattle.std.proofs.lemmas.Cmp.{ranked}
use Rattle.span_registry_layers_store.specs.RegistryCalls.{dropped}
use Rattle.span_registry_layers_store.specs.SlotCalls.{with_places}
use Rattle.span_registry_layers_store.specs.Places.{IsPlace, kin_of}
use Rattle.span_registry_layers_store.specs.Registries.{PlainSpan, RegistryValue, kin_in, one_less, one_more, plain_span}
use Rattle.span_registry_layers_store.specs.IdOrder.{IsBelow, Rises}
use Rattle.span_registry_layers_store.specs.Slots.{PlainPlace}
use Rattle.span_registry_layers_store.specs.Spans.{changed, is_open, without}
use Rattle.span_registry_layers_store.specs.declared.record.SpanRecord.{SpanRecord}
use Rattle.span_registry_layers_store.specs.declared.span.Span.{Span}
use Rattle.span_registry_layers_store.proofs.ChangedSpan.{PreservesKinship}
use Rattle.span_registry_layers_store.proofs.Lists.{map_more}
use Rattle.span_registry_layers_store.proofs.SpanPlaces.{differs, place_here, place_later}

module _ {A : Type 0} (kin : A → SpanRecord) where
  -- from a lower id on they rise too
  pub rises_from : (low least : ℕ) (xs : List A) → low ≤ least → Rises kin least xs → Rises kin low xs
  rises_from low least [] le rise = tt
  rises_from low least (x ∷ xs) le rise = (omega (arith, le, rise.0), rise.1)

  -- none lies below the least
  least_below : (least : ℕ) (xs : List A) (place : ℕ) (d : A) → Rises kin least xs → place < length xs →
      least ≤ (kin (slice_index_or xs place d)).id
  least_below least [] place d rise within = absurd (omega arith)
  least_below least (x ∷ xs) zero d rise within = rise.0
  least_below least (x ∷ xs) (suc place) d rise within = let later = least_below ((kin x).id + 1) xs place d rise.1 (omega arith) in
      omega (arith, rise.0, later)

  -- a later one is no lower
  later_above : (least : ℕ) (xs : List A) (i j : ℕ) (d : A) → Rises kin least xs → i ≤ j → j < length xs →
      (kin (slice_index_or xs i d)).id ≤ (kin (slice_index_or xs j d)).id
  later_above least [] i j d rise le within = absurd (omega arith)
  later_above least (x ∷ xs) zero zero d rise le within = omega arith
  later_above least (x ∷ xs) zero (suc j) d rise le within = let later = least_below ((kin x).id + 1) xs j d rise.1 (omega arith) in
      omega (arith, later)
  later_above least (x ∷ xs) (suc i) zero d rise le within = absurd (omega arith)
  later_above least (x ∷ xs) (suc i) (suc j) d rise le within = later_above ((kin x).id + 1) xs i j d rise.1 (omega arith) (omega arith)

  -- one more at the end, above all others
  pub rises_more : (least : ℕ) (xs : List A) (x : A) → least ≤ (kin x).id → AllByRecursion (λ (y : A). (kin y).id < (kin x).id) xs →
      Rises kin least xs → Rises kin least (xs ++ x ∷ [])
  rises_more least [] x le below rise = (le, tt)
  rises_more least (y ∷ ys) x le below rise = (rise.0, rises_more ((kin y).id + 1) ys x (omega (arith, below.0)) below.1 rise.1)

  -- without one
  pub rises_without : (least : ℕ) (xs : List A) (place : ℕ) → Rises kin least xs → Rises kin least (without xs place)
  rises_without least [] zero rise = tt
  rises_without least [] (suc place) rise = tt
  rises_without least (x ∷ xs) zero rise = rises_from least ((kin x).id + 1) xs (omega (arith, rise.0)) rise.1
  rises_without least (x ∷ xs) (suc place) rise = (rise.0, rises_without ((kin x).id + 1) xs place rise.1)

-- the same where they lie in memory
pub rises_mapped : (least : ℕ) (xs : List Span) → Rises kin_in least (map plain_span xs) → Rises kin_of least xs
rises_mapped least [] rise = tt
rises_mapped least (x ∷ xs) rise = (rise.0, rises_mapped (x.kin.id + 1) xs rise.1)

pub rises_plain : (least : ℕ) (xs : List Span) → Rises kin_of least xs → Rises kin_in least (map plain_span xs)
rises_plain least [] rise = tt
rises_plain least (x ∷ xs) rise = (rise.0, rises_plain (x.kin.id + 1) xs rise.1)

pub rises_removed : (least : ℕ) (xs : List Span) (place : ℕ) → Rises kin_in least (map plain_span xs) →
    Rises kin_in least (map plain_span (without xs place))
rises_removed least xs place rise = rises_plain least (without xs place) (rises_without kin_of least xs place (rises_mapped least xs rise))

-- a change that leaves ids
changed_if : (b : Bool) (f : PlainSpan → PlainSpan) (k : PreservesKinship f) (least : ℕ) (s : PlainSpan) (ss later : List PlainSpan) →
    Rises kin_in least (s ∷ ss) → Rises kin_in (s.kin.id + 1) later → Rises kin_in least (if b then f s ∷ ss else s ∷ later)
changed_if true f k least s ss later rise others = rw (k.same_id s) rise
changed_if false f k least s ss later rise others = (rise.0, others)

pub rises_changed : (f : PlainSpan → PlainSpan) (k : PreservesKinship f) (least : ℕ) (ss : List PlainSpan) (id : ℕ) →
    Rises kin_in least ss → Rises kin_in least (changed kin_in f ss id)
rises_changed f k least [] id rise = tt
rises_changed f k least (s ∷ ss) id rise = changed_if (s.kin.id == id) f k least s ss (changed kin_in f ss id) rise
    (rises_changed f k (s.kin.id + 1) ss id rise.1)

-- the one place where the id stands
pub place_in : (least : ℕ) (ss : List Span) (id place : ℕ) → Rises kin_of least ss → place < length ss →
    ((d : Span) → (slice_index_or ss place d).kin.id ≡ id) → IsPlace ss id place
place_in least [] id place rise within here = absurd (omega arith)
place_in least (s ∷ ss) id zero rise within here = place_here s ss id (here s)
place_in least (s ∷ ss) id (suc place) rise within here =
    let above = least_below kin_of (s.kin.id + 1) ss place s rise.1 (omega arith) in
    let there = here s in
    place_later s ss id place (differs s.kin.id id (λ same. omega (arith, above, there, same)))
    (place_in (s.kin.id + 1) ss id place rise.1 (omega arith) here)

-- no place has it
none_in : (ss : List Span) (id : ℕ) → ((place : ℕ) (d : Span) → place < length ss → (slice_index_or ss place d).kin.id ≡ id → ⊥) →
    is_open kin_of ss id ≡ false
none_in [] id others = refl
none_in (s ∷ ss) id others = rw (
  differs s.kin.id id (others 0 s (omega arith)),
  none_in ss id (λ place d within. others (suc place) d (omega arith)),
) refl

comparisons_rise : (ss : List Span) (id : ℕ) → Rises kin_of 0 ss → IsNonDecreasingBy (λ (s : Span). ordering_index (nat_cmp s.kin.id id)) ss
comparisons_rise ss id rise i j d le within = let ids = later_above kin_of 0 ss i j d rise le within in grind (arith, nat_tests, ids)

-- what a search by halves finds
pub searched_there : (ss : List Span) (id place : ℕ) → Rises kin_of 0 ss → place < length ss →
    IsBinarySearchResult (λ (s : Span). nat_cmp s.kin.id id) ss (Ok place) → IsPlace ss id place
searched_there ss id place rise within equal = place_in 0 ss id place rise within (λ d. ranked _ id _ (sym (equal d)))

pub searched_none : (ss : List Span) (id place : ℕ) → Rises kin_of 0 ss →
    IsBinarySearchResult (λ (s : Span). nat_cmp s.kin.id id) ss (Err place) → is_open kin_of ss id ≡ false
searched_none ss id place rise parted =
    let sides = parted (comparisons_rise ss id rise) in
    none_in ss id (λ k d within same. elim (cases_lt k place) [
      | inl before ↦ let less : (slice_index_or ss k d).kin.id < id = ranked _ id _ (sym (sides.0 k d (omega arith) before)) in
          omega (arith, less, same)
      | inr after ↦ let more : id < (slice_index_or ss k d).kin.id = ranked _ id _ (sym (sides.1 k d after within)) in
          omega (arith, more, same)
    ])

-- the slice of a registry's spans
pub rising_slice : (slice xs : List Span) → slice ≡ xs → Rises kin_in 0 (map plain_span xs) → Rises kin_of 0 slice
rising_slice slice xs same rise = subst (λ ss. Rises kin_of 0 ss) (sym same) (rises_mapped 0 xs rise)

-- with one more at the end
pub pushed_rising : (xs later : List Span) (s : Span) → later ≡ xs ++ s ∷ [] →
    AllByRecursion (λ (x : PlainSpan). x.kin.id < s.kin.id) (map plain_span xs) → Rises kin_in 0 (map plain_span xs) →
    Rises kin_in 0 (map plain_span later)
pushed_rising xs later s is below rise =
    subst (λ ss. Rises kin_in 0 ss) (sym (ap (map plain_span) is ∙ map_more plain_span xs s))
    (rises_more kin_in 0 (map plain_span xs) (plain_span s) (omega arith) below rise)

-- without the span of a place
pub removed_rising : (xs later : List Span) (place : ℕ) → later ≡ without xs place → Rises kin_in 0 (map plain_span xs) →
    Rises kin_in 0 (map plain_span later)
removed_rising xs later place is rise = subst (λ (ss : List Span). Rises kin_in 0 (map plain_span ss)) (sym is)
    (rises_removed 0 xs place rise)

pub more_keeps : PreservesKinship one_more
more_keeps = record { same_id = λ s. refl; same_parent = λ s. refl }

pub less_keeps : PreservesKinship one_less
less_keeps = record { same_id = λ s. refl; same_parent = λ s. refl }

pub slots_keep : (w : List PlainPlace) → PreservesKinship (with_places w)
slots_keep w = record { same_id = λ s. refl; same_parent = λ s. refl }

-- with one handle of a span more, or less, or other slots of it
pub more_rising : (later : List Span) (ss : List PlainSpan) (id : ℕ) → map plain_span later ≡ changed kin_in one_more ss id →
    Rises kin_in 0 ss → Rises kin_in 0 (map plain_span later)
more_rising later ss id is rise = subst (λ xs. Rises kin_in 0 xs) (sym is) (rises_changed one_more more_keeps 0 ss id rise)

pub less_rising : (later : List Span) (ss : List PlainSpan) (id : ℕ) → map plain_span later ≡ changed kin_in one_less ss id →
    Rises kin_in 0 ss → Rises kin_in 0 (map plain_span later)
less_rising later ss id is rise = subst (λ xs. Rises kin_in 0 xs) (sym is) (rises_changed one_less less_keeps 0 ss id rise)

pub lent_rising : (ss left : List PlainSpan) (id : ℕ) (w : List PlainPlace) → left ≡ changed kin_in (with_places w) ss id →
    Rises kin_in 0 ss → Rises kin_in 0 left
lent_rising ss left id w is rise = subst (λ xs. Rises kin_in 0 xs) (sym is) (rises_changed (with_places w) (slots_keep w) 0 ss id rise)

-- ids stay below the next one: where spans close
dropped_if : (b : Bool) (next : ℕ) (s : PlainSpan) (ss left : List PlainSpan) →
    AllByRecursion (λ (x : PlainSpan). x.kin.id < next) (s ∷ ss) → AllByRecursion (λ (x : PlainSpan). x.kin.id < next) left →
    AllByRecursion (λ (x : PlainSpan). x.kin.id < next) (if b then ss else s ∷ left)
dropped_if true next s ss left below later = below.1
dropped_if false next s ss left below later = (below.0, later)

below_dropped : (next : ℕ) (ss : List PlainSpan) (id : ℕ) → AllByRecursion (λ (x : PlainSpan). x.kin.id < next) ss →
    AllByRecursion (λ (x : PlainSpan). x.kin.id < next) (dropped ss id)
below_dropped next [] id below = tt
below_dropped next (s ∷ ss) id below = dropped_if (s.kin.id == id) next s ss (dropped ss id) below (below_dropped next ss id below.1)

pub forgotten_below : (x : RegistryValue) (left : List PlainSpan) (id : ℕ) → left ≡ dropped x.spans id → IsBelow x →
    IsBelow (record x { spans = left })
forgotten_below x left id is below = subst (λ (ss : List PlainSpan). AllByRecursion (λ (s : PlainSpan). s.kin.id < x.next_id) ss) (sym is)
    (below_dropped x.next_id x.spans id below)
