-- What a layer writes in the slots that a context lends.
use Rattle.std.proofs.Common.{◌≡◌, ◌==◌, ℕ, List, Bool, true, false, filter, if◌then◌else◌, Option, Some, None, refl, sym, ap, ◌∙◌}
use Rattle.std.specs.Option.{option_map}
use Rattle.span_registry_layers_store.specs.SlotIndependence.{SameButKeys}
use Rattle.span_registry_layers_store.specs.Registries.{PlainSpan, RegistryValue, kin_in}
use Rattle.span_registry_layers_store.specs.Slots.{PlainPlace}
use Rattle.span_registry_layers_store.specs.Spans.{found}
use Rattle.span_registry_layers_store.specs.Views.{sees, seen_if}
use Rattle.span_registry_layers_store.proofs.SlotsByKey.{written_under}
use Rattle.span_registry_layers_layers.specs.ContextLoans.{slots_in, writing}
use Rattle.span_registry_layers_layers.specs.Contexts.{span_in}
use Rattle.span_registry_layers_layers.specs.FilterViews.{left, view}
use Rattle.span_registry_layers_layers.specs.declared.context.Context.{Context}

-- the span whose slots are lent
record Lent (x : RegistryValue) (id : ℕ) (slots : List PlainPlace) : Type 0 where
  span : PlainSpan
  there : found kin_in x.spans id ≡ Some span
  own : span.slots ≡ slots

lent_if : (b : Bool) (x : RegistryValue) (id : ℕ) (s : PlainSpan) (slots : List PlainPlace) → found kin_in x.spans id ≡ Some s →
    option_map slots_in (if b then Some s else None) ≡ Some slots → Lent x id slots
lent_if true x id s slots there e = record { span = s; there = there; own = cc }
lent_if false x id s slots there e = absurd (cc)

lent_by : (mask : Option ℕ) (x : RegistryValue) (id : ℕ) (o : Option PlainSpan) (slots : List PlainPlace) → found kin_in x.spans id ≡ o →
    option_map slots_in (seen_if mask o) ≡ Some slots → Lent x id slots
lent_by mask x id None slots there e = absurd (cc)
lent_by mask x id (Some s) slots there e = lent_if (sees mask s) x id s slots there e

-- slots that are the same as the lent ones under all keys but some
pub writes_under : (c : Context) (id : ℕ) (keys : ℕ → Bool) (slots places : List PlainPlace) →
    Some slots ≡ option_map slots_in (span_in (view c) id) →
    ((key : ℕ) → keys key ≡ false → filter (λ (p : PlainPlace). p.key == key) places ≡ filter (λ (p : PlainPlace). p.key == key) slots) →
    SameButKeys keys (left c) (left (writing c id places))
writes_under c id keys slots places lent same =
    let there = lent_by (view c).mask (left c) id (found kin_in (left c).spans id) slots refl (sym lent) in
    written_under (left c) id keys there.span places there.there
    (λ key none. same key none ∙ ap (λ (ps : List PlainPlace). filter (λ (p : PlainPlace). p.key == key) ps) (sym there.own))
