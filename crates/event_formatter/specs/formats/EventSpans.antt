-- The spans that an event stands in, as a formatter asks for them.
use Rattle.std.specs.Prelude.{◌≡◌, ℕ, Bool, List, [], ◌∷◌, reverse, Option, None, Result, Ok, Err}
use Rattle.std.specs.List.{last_or}
use Rattle.std.specs.Option.{option_and_then}
use Rattle.tracing_core_fields.specs.declared.requests.arguments.parent.Parent.{Parent}
use Rattle.span_registry_layers_store.specs.References.{PlainRef, plain_ref, refs_of}
use Rattle.span_registry_layers_store.specs.Registries.{PlainSpan}
use Rattle.span_registry_layers_store.specs.declared.span_ref.SpanRef.{SpanRef}
use Rattle.span_registry_layers_layers.specs.Contexts.{event_span, span_in}
use Rattle.span_registry_layers_layers.specs.FilterViews.{View}
use Rattle.event_formatter.specs.formats.Scopes.{only_if, refs_from}
use Rattle.event_formatter.specs.formats.ScopeIds.{FillsScope, HasNumber}

-- the span of the last id, where it is seen
abbrev pub leaf_in : View → List ℕ → Option PlainSpan
leaf_in v ids = option_and_then (span_in v) (last_or None ids)

-- the spans of these ids that are seen
abbrev pub refs_at : View → List ℕ → List PlainRef
refs_at v ids = refs_of v.registry v.mask ids

-- The spans were handed over one after another, up to the first refusal, which is the answer: `calls` says of a call
-- what was called, with which span, what it answered, and what it left.
pub data HandsEach {F E : Type 0} (calls : F → SpanRef → Result (Unit {0}) E → F → Type 0) : List PlainRef → F → Result (Unit {0}) E →
    Type 0 where
  -- there is nothing more to hand over
  all_handed : {f : F} → HandsEach calls [] f (Ok tt)
  -- a span was refused, and nothing after it is handed over
  refused : {s : PlainRef} {later : List PlainRef} {f left : F} {error : E} → (span : SpanRef) → plain_ref span ≡ s →
      calls f span (Err error) left → HandsEach calls (s ∷ later) f (Err error)
  -- a span was handed over, and then the others are
  handed : {s : PlainRef} {later : List PlainRef} {f next : F} {answer : Result (Unit {0}) E} → (span : SpanRef) → plain_ref span ≡ s →
      calls f span (Ok tt) next → HandsEach calls later next answer → HandsEach calls (s ∷ later) f answer

-- the ids of an event's scope lead back to the spans that it stands in: to the innermost one, and to all of them from
-- the root on
abbrev pub IdsLeadBack : Type 0
IdsLeadBack =
    (v : View) (parent : Parent) (ids : List ℕ) (stands_in : Bool) → FillsScope v parent ids stands_in →
    HasNumber (event_span v parent) →
    (leaf_in v (only_if stands_in ids) ≡ event_span v parent)
    × (refs_at v (only_if stands_in ids) ≡ reverse (refs_from v (event_span v parent)))
