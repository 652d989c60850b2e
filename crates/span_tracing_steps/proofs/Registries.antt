-- A registry without slots has the same spans.
use Rattle.std.proofs.Common.{◌≡◌, ℕ, Bool, true, false, ◌==◌, List, [], ◌∷◌, map, Option, Some, None, refl, ap, ◌∙◌}
use Rattle.std.specs.Prelude.{if◌then◌else◌, ◌||◌, option_and_then}
use Rattle.std.specs.Option.{option_map}
use Rattle.tracing_core_fields.specs.PlainMetadata.{PlainMetadata}
use Rattle.span_registry_layers_store.specs.SlotIndependence.{bare_span}
use Rattle.span_registry_layers_store.specs.Registries.{PlainSpan, kin_in}
use Rattle.span_registry_layers_store.specs.Spans.{found, handles_of, is_open}

pub open_bare : (ss : List PlainSpan) (id : ℕ) → is_open kin_in (map bare_span ss) id ≡ is_open kin_in ss id
open_bare [] id = refl
open_bare (s ∷ ss) id = ap (λ b. (s.kin.id == id) || b) (open_bare ss id)

found_if : (b : Bool) (s : PlainSpan) (x y : Option PlainSpan) → x ≡ option_map bare_span y →
    (if b then Some (bare_span s) else x) ≡ option_map bare_span (if b then Some s else y)
found_if true s x y e = refl
found_if false s x y e = e

pub found_bare : (ss : List PlainSpan) (id : ℕ) → found kin_in (map bare_span ss) id ≡ option_map bare_span (found kin_in ss id)
found_bare [] id = refl
found_bare (s ∷ ss) id = found_if (s.kin.id == id) s (found kin_in (map bare_span ss) id) (found kin_in ss id) (found_bare ss id)

handles_of_one : (o : Option PlainSpan) → Rattle.span_registry_layers_store.specs.Spans.handles_in kin_in
    (option_map bare_span o) ≡ Rattle.span_registry_layers_store.specs.Spans.handles_in kin_in o
handles_of_one None = refl
handles_of_one (Some s) = refl

pub handles_bare : (ss : List PlainSpan) (id : ℕ) → handles_of kin_in (map bare_span ss) id ≡ handles_of kin_in ss id
handles_bare ss id = ap (Rattle.span_registry_layers_store.specs.Spans.handles_in kin_in) (found_bare ss id) ∙
    handles_of_one (found kin_in ss id)

-- the number of an open span's callsite
number_of_one : (o : Option PlainSpan) → option_map (λ (s : PlainSpan). s.metadata.callsite) (option_map bare_span o) ≡ option_map
    (λ (s : PlainSpan). s.metadata.callsite) o
number_of_one None = refl
number_of_one (Some s) = refl

pub number_bare : (ss : List PlainSpan) (id : ℕ) →
    option_map (λ (s : PlainSpan). s.metadata.callsite) (found kin_in (map bare_span ss) id) ≡ option_map
    (λ (s : PlainSpan). s.metadata.callsite) (found kin_in ss id)
number_bare ss id = ap (option_map (λ (s : PlainSpan). s.metadata.callsite)) (found_bare ss id) ∙ number_of_one (found kin_in ss id)

-- the callsite of an open span is the one of that number
pub callsite_by : (f : ℕ → Option PlainMetadata) (o : Option PlainSpan) →
    option_and_then (λ (x : PlainSpan). f x.metadata.callsite) o ≡ option_and_then f (option_map (λ (s : PlainSpan). s.metadata.callsite) o)
callsite_by f None = refl
callsite_by f (Some s) = refl
