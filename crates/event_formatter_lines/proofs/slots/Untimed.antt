-- A span of which no timings are kept.
use Rattle.std.proofs.Common.{◌≡◌, ℕ, ◌==◌, Bool, true, false, List, [], ◌∷◌, if◌then◌else◌, Option, Some, None, is_some, refl, ap, sym}
use Rattle.std.proofs.Common.{◌∙◌}
use Rattle.std.specs.Option.{option_map}
use Rattle.tracing_core_moments.specs.declared.at.At.{At}
use Rattle.span_registry_layers_store.specs.SlotIndependence.{keys_equal}
use Rattle.span_registry_layers_store.specs.SlotCalls.{with_places}
use Rattle.span_registry_layers_store.specs.Registries.{PlainSpan, RegistryValue, kin_in}
use Rattle.span_registry_layers_store.specs.Spans.{changed, found}
use Rattle.span_registry_layers_store.specs.Views.{seen, seen_if, sees}
use Rattle.span_registry_layers_store.specs.declared.slot.Timings.{Timings}
use Rattle.span_registry_layers_layers.specs.FilterViews.{left, view}
use Rattle.span_registry_layers_layers.specs.declared.context.Context.{Context}
use Rattle.event_formatter_lines.specs.slots.FieldsAndTimings.{kept_at}
use Rattle.event_formatter_lines.specs.slots.SpanUpdates.{KeepsWith, Rekeeps, kept_in, kept_with}
use Rattle.event_formatter_lines.specs.slots.SteppedTimings.{kept_stepped, timings_after}
use Rattle.event_formatter_lines.specs.declared.slots.timings.TimingStep.{TimingStep}

-- the span of an id with the slots that it has
same_if : (b : Bool) (s x : PlainSpan) (xs ys : List PlainSpan) (later : Option PlainSpan) → (if b then Some x else later) ≡ Some s →
    (later ≡ Some s → ys ≡ xs) → (if b then with_places s.slots x ∷ xs else x ∷ ys) ≡ x ∷ xs
same_if true s x xs ys later is same = let here : x ≡ s = cc in ap (λ (t : PlainSpan). with_places t.slots x ∷ xs) (sym here)
same_if false s x xs ys later is same = ap (λ (zs : List PlainSpan). x ∷ zs) (same is)

found_same : (xs : List PlainSpan) (id : ℕ) (s : PlainSpan) → found kin_in xs id ≡ Some s → changed kin_in (with_places s.slots) xs id ≡ xs
found_same [] id s is = refl
found_same (x ∷ xs) id s is = same_if ((kin_in x).id == id) s x xs (changed kin_in (with_places s.slots) xs id) (found kin_in xs id) is
    (found_same xs id s)

one_if : (b : Bool) (x s : PlainSpan) → (if b then Some x else None) ≡ Some s → Some x ≡ Some s
one_if true x s is = is
one_if false x s is = absurd (cc)

is_found : (mask : Option ℕ) (o : Option PlainSpan) (s : PlainSpan) → seen_if mask o ≡ Some s → o ≡ Some s
is_found mask None s is = absurd (cc)
is_found mask (Some x) s is = one_if (sees mask x) x s is

no_timings : (timings : Option Timings) → is_some timings ≡ false → timings ≡ None
no_timings None is = refl
no_timings (Some t) is = absurd (cc)

keeps_none : (o : Option PlainSpan) (x : RegistryValue) (id key : ℕ) (step : TimingStep) (at : At) →
    ((s : PlainSpan) → o ≡ Some s → found kin_in x.spans id ≡ Some s) → (kept_with key o).timings ≡ None →
    KeepsWith o x id key (kept_stepped step at (kept_with key o)) x
keeps_none None x id key step at is_open none = refl
keeps_none (Some s) x id key step at is_open none = (
  s.slots,
  ap (λ (t : Option Timings). record (kept_at key s.slots) { timings = t }) none ∙
      sym (ap (λ (t : Option Timings). record (kept_at key s.slots) { timings = option_map (timings_after step at) t }) none),
  sym (ap (λ (spans : List PlainSpan). record x { spans = spans }) (found_same x.spans id s (is_open s refl))),
)

-- nothing changes
pub untimed : (c : Context) (id key : ℕ) (step : TimingStep) → is_some (kept_in (view c) id key).timings ≡ false →
    Rekeeps (view c) id key (kept_stepped step (view c).at (kept_in (view c) id key)) (left c)
untimed c id key step none =
    let v = view c in (
      keeps_none (seen v.registry v.mask id) v.registry id key step v.at (is_found v.mask (found kin_in v.registry.spans id))
          (no_timings (kept_in v id key).timings none),
      keys_equal (λ k. k == key) (left c) (left c) refl,
    )
