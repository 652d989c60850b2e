-- Spans that close, of a registry as a value.
use Rattle.std.proofs.Common.{◌≡◌, ◌<◌, ◌≤◌, ◌+◌, ◌==◌, if◌then◌else◌, Bool, true, false, ℕ, zero, suc, List, [], ◌∷◌, length, map, get_or}
use Rattle.std.proofs.Common.{◌||◌, Option, Some, None, MatchOption, refl, ap, sym, subst, ◌∙◌, arith}
use Rattle.std.specs.Prelude.{option_and_then}
use Rattle.std.proofs.lemmas.Bool.{eqb-true}
use Rattle.std.proofs.lemmas.Bool.Decides.{nat_tests}
use Rattle.span_registry_layers_store.specs.RegistryCalls.{ClosesFirst, ClosesNext, IsNext, IsSettled, dropped}
use Rattle.span_registry_layers_store.specs.Places.{IsPlace, kin_of}
use Rattle.span_registry_layers_store.specs.Registries.{PlainSpan, RegistryValue, kin_in, plain_span}
use Rattle.span_registry_layers_store.specs.IdOrder.{Rises}
use Rattle.span_registry_layers_store.specs.Spans as spans
use Rattle.span_registry_layers_store.specs.Spans.{AllStay, closed_of, found, is_open, open_of, parent_of, without}
use Rattle.span_registry_layers_store.specs.declared.span.Span.{Span}
use Rattle.span_registry_layers_store.proofs.Lists.{get_at}
use Rattle.span_registry_layers_store.proofs.PlainSpans.{closed_mapped, left_mapped}
use Rattle.span_registry_layers_store.proofs.SpanPlaces.{differs}
use Rattle.span_registry_layers_store.proofs.SeenSpans.{found_at, none_found}

pub equal_true : (a : ℕ) → (a == a) ≡ true
equal_true a = grind (arith, nat_tests)

pub away : (a b : ℕ) → a < b → (a == b) ≡ false
away a b lt = differs a b (λ same. omega (arith, lt, same))

pub above_at : (least : ℕ) (xs : List Span) (place : ℕ) (s : Span) → Rises kin_in least (map plain_span xs) → place < length xs →
    s ≡ get_or xs place s → least ≤ s.kin.id
above_at least [] place s rise within e = absurd (omega (arith, within))
above_at least (x ∷ xs) zero s rise within e = subst (λ (t : Span). least ≤ t.kin.id) (sym e) rise.0
above_at least (x ∷ xs) (suc place) s rise within e = let later = above_at (x.kin.id + 1) xs place s rise.1 (omega (arith, within)) e in
    omega (arith, later, rise.0)

head_dropped : (x s : PlainSpan) (xs later : List PlainSpan) → s ≡ x → xs ≡ (if x.kin.id == s.kin.id then xs else x ∷ later)
head_dropped x s xs later e = subst (λ (t : PlainSpan). xs ≡ (if x.kin.id == t.kin.id then xs else x ∷ later)) (sym e)
    (rw (equal_true x.kin.id) refl)

later_dropped : (b : Bool) (x : PlainSpan) (xs left later : List PlainSpan) → b ≡ false → left ≡ later →
    x ∷ left ≡ (if b then xs else x ∷ later)
later_dropped true x xs left later e same = cc
later_dropped false x xs left later e same = ap (λ ss. x ∷ ss) same

-- where ids rise, the span of a place is the only one of its id
dropped_at : (least : ℕ) (xs : List Span) (place : ℕ) (s : Span) → Rises kin_in least (map plain_span xs) → place < length xs →
    s ≡ get_or xs place s → map plain_span (without xs place) ≡ dropped (map plain_span xs) s.kin.id
dropped_at least [] place s rise within e = absurd (omega (arith, within))
dropped_at least (x ∷ xs) zero s rise within e = head_dropped (plain_span x) (plain_span s) (map plain_span xs)
    (dropped (map plain_span xs) s.kin.id) (ap plain_span e)
dropped_at least (x ∷ xs) (suc place) s rise within e =
    let above = above_at (x.kin.id + 1) xs place s rise.1 (omega (arith, within)) e in
    later_dropped (x.kin.id == s.kin.id) (plain_span x) (map plain_span xs) (map plain_span (without xs place))
    (dropped (map plain_span xs) s.kin.id)
    (away x.kin.id s.kin.id (omega (arith, above))) (dropped_at (x.kin.id + 1) xs place s rise.1 (omega (arith, within)) e)

shorter : (xs : List Span) (place : ℕ) → place < length xs → length (map plain_span (without xs place)) < length (map plain_span xs)
shorter [] place within = absurd (omega (arith, within))
shorter (x ∷ xs) zero within = omega arith
shorter (x ∷ xs) (suc place) within = let less = shorter xs place (omega (arith, within)) in omega (arith, less)

module _ (lanes : List (List ℕ)) (xs : List Span) where
  -- where all stay
  pub all_settled : AllStay kin_of lanes xs → AllStay kin_in lanes (map plain_span xs)
  all_settled s = record {
    left = left_mapped lanes xs ∙ ap (map plain_span) s.left;
    closed = closed_mapped lanes xs ∙ ap (map plain_span) s.closed;
  }

  -- the span of a place closes first, and ids rise
  pub first_closes : (place : ℕ) (s : Span) → s ≡ get_or xs place s → Rises kin_in 0 (map plain_span xs) →
      spans.ClosesNext kin_of lanes xs place → ClosesFirst lanes (map plain_span xs) s.kin.id
  first_closes place s e rise c =
      let gone = dropped_at 0 xs place s rise c.within e in
      record {
        span = plain_span s;
        same = refl;
        closed =
            closed_mapped lanes xs ∙ ap (map plain_span) (c.closed s (get_at xs place s c.within e)) ∙
            ap (λ ys. plain_span s ∷ ys) (sym (closed_mapped lanes (without xs place)))
            ∙ ap (λ ys. plain_span s ∷ closed_of kin_in lanes ys) gone;
        left = ap (open_of kin_in lanes) (sym gone) ∙ left_mapped lanes (without xs place) ∙ ap (map plain_span) c.left ∙
            sym (left_mapped lanes xs);
        fewer = subst (λ (ss : List PlainSpan). length ss < length (map plain_span xs)) gone (shorter xs place c.within);
      }

module _ (x : RegistryValue) where
  pub settled : AllStay kin_in x.lanes x.spans → IsSettled x
  settled s = (s.closed, ap (λ (ss : List PlainSpan). record x { spans = ss }) s.left)

  pub told_closing : (r : Option ℕ) → MatchOption r (AllStay kin_in x.lanes x.spans) (λ id. ClosesFirst x.lanes x.spans id) →
      MatchOption r (IsSettled x) (λ id. IsNext x id)
  told_closing None s = settled s
  told_closing (Some id) c = (c.span, closed_of kin_in x.lanes (dropped x.spans id), c.same, c.closed)

  pub forgotten : (id : ℕ) (left : List PlainSpan) → left ≡ dropped x.spans id → ClosesFirst x.lanes x.spans id →
      ClosesNext x id (record x { spans = left })
  forgotten id left is c = subst (λ (ss : List PlainSpan). ClosesNext x id (record x { spans = ss })) (sym is) (
    c.span,
    c.same,
    c.closed,
    ap (λ (ss : List PlainSpan). record x { spans = ss }) c.left,
    refl,
    λ rising. ap (dropped x.spans) (sym c.same),
  )

  pub forgotten_fewer : (id : ℕ) (left : List PlainSpan) → left ≡ dropped x.spans id → ClosesFirst x.lanes x.spans id →
      length left < length x.spans
  forgotten_fewer id left is c = subst (λ (ss : List PlainSpan). length ss < length x.spans) (sym is) c.fewer

found_if : (b : Bool) (x s : PlainSpan) (o : Option PlainSpan) (id : ℕ) → (x.kin.id == id) ≡ b → (if b then Some x else o) ≡ Some s →
    (o ≡ Some s → s.kin.id ≡ id) → s.kin.id ≡ id
found_if true x s o id test is later = let same : x ≡ s = cc in ap (λ (t : PlainSpan). t.kin.id) (sym same) ∙ eqb-true x.kin.id id test
found_if false x s o id test is later = later is

-- what is found has the id
pub found_id : (ss : List PlainSpan) (id : ℕ) (s : PlainSpan) → found kin_in ss id ≡ Some s → s.kin.id ≡ id
found_id [] id s is = cc
found_id (x ∷ xs) id s is = found_if (x.kin.id == id) x s (found kin_in xs id) id refl is (found_id xs id s)

-- what is taken out of a place answers its parent
pub parent_there : (slice xs : List Span) (id place : ℕ) (s : Span) → slice ≡ xs → IsPlace slice id place → s ≡ get_or xs place s →
    s.kin.parent ≡ parent_of kin_in (map plain_span xs) id
parent_there slice xs id place s same p e = ap (option_and_then (λ (t : PlainSpan). t.kin.parent)) (found_at slice xs id place s same p e)

pub no_parent : (xs : List Span) (id : ℕ) → is_open kin_of xs id ≡ false → parent_of kin_in (map plain_span xs) id ≡ None
no_parent xs id none = ap (option_and_then (λ (t : PlainSpan). t.kin.parent)) (none_found xs id none)

-- without the span of a place, and where there is none
pub removed_at : (slice xs later : List Span) (id place : ℕ) (s : Span) → slice ≡ xs → IsPlace slice id place → s ≡ get_or xs place s →
    later ≡ without xs place → Rises kin_in 0 (map plain_span xs) → map plain_span later ≡ dropped (map plain_span xs) id
removed_at slice xs later id place s same p e is rise =
    let within : place < length xs = subst (λ (ys : List Span). place < length ys) same p.within in
    ap (map plain_span) is ∙ dropped_at 0 xs place s rise within e ∙
    ap (dropped (map plain_span xs)) (found_id (map plain_span xs) id (plain_span s) (sym (found_at slice xs id place s same p e)))

none_if : (b c : Bool) (x : Span) (xs : List Span) (left : List PlainSpan) → (b || c) ≡ false → (c ≡ false → left ≡ map plain_span xs) →
    (if b then map plain_span xs else plain_span x ∷ left) ≡ map plain_span (x ∷ xs)
none_if true c x xs left none later = cc
none_if false c x xs left none later = ap (λ ss. plain_span x ∷ ss) (later none)

pub none_dropped : (xs : List Span) (id : ℕ) → is_open kin_of xs id ≡ false → dropped (map plain_span xs) id ≡ map plain_span xs
none_dropped [] id none = refl
none_dropped (x ∷ xs) id none = none_if (x.kin.id == id) (is_open kin_of xs id) x xs (dropped (map plain_span xs) id) none
    (none_dropped xs id)
