-- What a call leaves of a stack's registry is what the registry's own call leaves: outputs have no say in it but whether a span is made,
-- its verdicts, and slots.
use Rattle.std.specs.Prelude.{◌≡◌, ℕ, Bool, true, false, Option, Some, None, Result, Ok, Err, List}
use Rattle.tracing_core_fields.specs.requests.Calls.{Call, ReplyTo, DispatchRegistered, CallsiteRegistered, Asked, HintAsked, SpanMade}
use Rattle.tracing_core_fields.specs.requests.Calls.{Recorded, FollowsRecorded, EventAsked, EventDispatched, Entered, Exited, Cloned}
use Rattle.tracing_core_fields.specs.requests.Calls.{Dropped, CloseTried, CurrentAsked}
use Rattle.tracing_core_fields.specs.requests.Refusals.{or_refused}
use Rattle.tracing_core_fields.specs.requests.PlainRequests.{PlainAttributes, explicit_parent}
use Rattle.tracing_core_fields.specs.declared.requests.refusal.RequestError.{RequestError}
use Rattle.tracing_core_fields.specs.declared.requests.refusal.RequestError.TheVariants.{UnknownParent}
use Rattle.span_registry_layers_store.specs.SlotIndependence.{SameButSlots}
use Rattle.span_registry_layers_store.specs.RegistryCalls.{EntryGives, SpanGives, clone_gives, close_gives, follow_refusal, open_refusal}
use Rattle.span_registry_layers_store.specs.Registries.{RegistryValue, current_on, knows, swept, without_entry}
use Rattle.span_registry_layers_layers.specs.Notices.{Notice, Untouched}
use Rattle.span_registry_layers_layers.specs.declared.filter.Filter.{Ghosts}
use Rattle.span_registry_layers_layers.specs.declared.filtered.Filtered.{Filtered}
use Rattle.span_registry_layers_layers.specs.declared.layer.Layer.{Ghosts as LayerGhosts}
use Rattle.span_registry_layers.specs.Calls.{inside}
use Rattle.span_registry_layers.specs.Moves.{Moves}
use Rattle.span_registry_layers.specs.Stacks.{StackValue}

-- a span that no output wants changes nothing, and only where a named parent is open; any other is made by the registry, with some
-- verdicts, or refused by it
abbrev pub SpanAlone : RegistryValue → PlainAttributes → ℕ → Result (Option ℕ) RequestError → RegistryValue → Type 0
SpanAlone x a lane (Ok None) y = (knows x (explicit_parent a.parent) ≡ true) × (y ≡ x)
SpanAlone x a lane (Ok (Some id)) y = (verdicts : List Bool) × SpanGives x a.metadata a.parent lane verdicts (Ok id) y
SpanAlone x a lane (Err e) y = (verdicts : List Bool) × SpanGives x a.metadata a.parent lane verdicts (Err e) y

-- an event stands under a span that is open
abbrev pub event_answer : Bool → Result (Unit {0}) RequestError
event_answer true = Ok tt
event_answer false = Err UnknownParent

-- a close that is refused closes nothing
abbrev pub says_closed : Result Bool RequestError → Bool
says_closed (Ok closed) = closed
says_closed (Err e) = false

-- what a call answers of a registry, and leaves of it
abbrev pub AloneGives : RegistryValue → (c : Call) → ReplyTo c → RegistryValue → Type 0
AloneGives x (DispatchRegistered dispatch) r y = y ≡ x
AloneGives x (CallsiteRegistered m) r y = y ≡ x
AloneGives x (Asked m at) r y = y ≡ x
AloneGives x HintAsked r y = y ≡ x
AloneGives x (SpanMade a at) r y = SpanAlone x a at.lane r y
AloneGives x (Recorded id values at) r y = (r ≡ or_refused (open_refusal x id) tt) × (y ≡ x)
AloneGives x (FollowsRecorded id follows at) r y = (r ≡ or_refused (follow_refusal x id follows) tt) × (y ≡ x)
AloneGives x (EventAsked e at) r y = y ≡ x
AloneGives x (EventDispatched e at) r y = (r ≡ event_answer (knows x (explicit_parent e.parent))) × (y ≡ x)
AloneGives x (Entered id at) r y = EntryGives x at.lane id r y
AloneGives x (Exited id at) r y = y ≡ swept (without_entry x at.lane id)
AloneGives x (Cloned id at) r y = (r, y) ≡ clone_gives x id
AloneGives x (Dropped id at) r y = y ≡ (close_gives x id).1
AloneGives x (CloseTried id at) r y = (r ≡ says_closed (close_gives x id).0) × (y ≡ (close_gives x id).1)
AloneGives x (CurrentAsked at) r y = (r ≡ inside (current_on x at.lane)) × (y ≡ x)

-- no layer writes a slot
abbrev pub WritesNothing : {L : Type 0} → LayerGhosts L → Type 0
WritesNothing {L = L} h = (layer : L) (n : Notice) (later : L) → h.told layer n later → Untouched n

module _ {L F : Type 0} (g : Ghosts F) (h : LayerGhosts L) where
  -- so it is of each call, whatever the outputs are, but for the slots that their layers wrote
  abbrev pub RegistryStandsAlone : Type 0
  RegistryStandsAlone =
      (s : StackValue (Filtered L F)) (c : Call) (r : ReplyTo c) (t : StackValue (Filtered L F)) → Moves g h s c r t → (y : RegistryValue) ×
      AloneGives s.registry c r y × SameButSlots y t.registry

  -- and where they write none it is just so
  abbrev pub UnwrittenStandsAlone : Type 0
  UnwrittenStandsAlone =
      WritesNothing h → (s : StackValue (Filtered L F)) (c : Call) (r : ReplyTo c) (t : StackValue (Filtered L F)) → Moves g h s c r t →
      AloneGives s.registry c r t.registry
