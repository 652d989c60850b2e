-- Where a request goes, before it is told.
use Rattle.std.specs.Prelude.{◌≡◌, ◌⊎◌, ℕ, Bool, true, Option, Some, None, Result, Ok, Err, is_some}
use Rattle.tracing_core_fields.specs.PlainMetadata.{PlainMetadata}
use Rattle.tracing_core_fields.specs.requests.PlainRequests.{explicit_parent}
use Rattle.tracing_core_fields.specs.declared.requests.subscriber.Subscriber.{Ghosts}
use Rattle.tracing_core_moments.specs.declared.moment.Moment.{Moment}
use Rattle.tracing_core.specs.declared.hub.index.CallsiteIndex.{CallsiteIndex}
use Rattle.span_registry_layers_store.specs.Registries.{RegistryValue}
use Rattle.span_tracing_skeleton.specs.IgnoredEvents.{Ignores}
use Rattle.span_tracing_skeleton.specs.Looking.{known, reach}
use Rattle.span_tracing_skeleton.specs.Acting.{told_parent}
use Rattle.span_tracing_skeleton.specs.Order.{request_refusal}
use Rattle.span_tracing_skeleton.specs.declared.call.Parent.{Parent}
use Rattle.span_tracing_skeleton.specs.declared.refusal.Refusal.{Refusal}
use Rattle.span_tracing_steps.specs.States.{StateValue, at_index, held_in, skeleton_of}

-- where the callsite of a request stands, which nothing refuses, or the first refusal
abbrev pub FoundFor : {T : Type 0} → (T → RegistryValue) → StateValue T → ℕ → Moment → ℕ → Bool → Parent → Result CallsiteIndex Refusal →
    Type 0
FoundFor registry_of v lane moment number is_span parent (Ok index) =
    (at_index (skeleton_of registry_of v).callsites (Some index) ≡ known (skeleton_of registry_of v) number is_span)
    × (is_some (known (skeleton_of registry_of v) number is_span) ≡ true)
    × (request_refusal (skeleton_of registry_of v) lane moment number is_span parent ≡ None)
FoundFor registry_of v lane moment number is_span parent (Err refusal) = request_refusal (skeleton_of registry_of v) lane moment number
    is_span parent ≡ Some refusal

-- the stack may stay as it is at every event of the callsite under this parent
abbrev pub StaysAt : {T : Type 0} → Ghosts T → Parent → Option PlainMetadata → T → Type 0
StaysAt g parent None x = ⊥
StaysAt g parent (Some m) x = (explicit_parent (told_parent parent) ≡ None) × Ignores g x m.level

-- the stack that has to be told of an event at the callsite of an index, where a lane reaches one that doesn't ignore it
abbrev pub GoesTo : {T : Type 0} → Ghosts T → (T → RegistryValue) → StateValue T → ℕ → CallsiteIndex → Parent → Option ℕ → Type 0
GoesTo g registry_of v lane index parent (Some stack) = reach (skeleton_of registry_of v) lane ≡ Some stack
GoesTo {T = T} g registry_of v lane index parent None = (reach (skeleton_of registry_of v) lane ≡ None) ⊎
    ((stack : ℕ) × (x : T) × (reach (skeleton_of registry_of v) lane ≡ Some stack) × (held_in v stack ≡ Some x) ×
    StaysAt g parent (at_index (skeleton_of registry_of v).callsites (Some index)) x)
