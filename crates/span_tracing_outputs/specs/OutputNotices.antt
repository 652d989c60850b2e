-- What an output is told, by the registry as its filter sees it. Slots of spans are not read here.
use Rattle.std.specs.Prelude.{ℕ, Bool, true, false, List, [], ◌∷◌, ◌++◌, map, reverse, Option, Some, None}
use Rattle.tracing_core_fields.specs.requests.PlainRequests.{PlainEvent}
use Rattle.tracing_core_moments.specs.declared.at.At.{At}
use Rattle.span_registry_layers_store.specs.SlotIndependence.{ids_of}
use Rattle.span_registry_layers_store.specs.RegistryCalls.{dropped}
use Rattle.span_registry_layers_store.specs.Registries.{PlainSpan, RegistryValue, closing_in, with_entry, without_entry, without_handle}
use Rattle.span_registry_layers_store.specs.Views.{scope_of, seen}
use Rattle.span_registry_layers_layers.specs.Contexts.{event_span}
use Rattle.span_registry_layers_layers.specs.FilterViews.{View}
use Rattle.event_formatter.specs.formats.Scopes.{loose_leaf}
use Rattle.span_tracing_outputs.specs.OutputMachines.{Call, Closed, Entered, Happened, Heard, Left, OnSpan, Seen}

abbrev pub seen_as : PlainSpan → Seen
seen_as s = record { id = s.kin.id; name = s.metadata.name; target = s.metadata.target }

-- a span, where there is one, and its ancestors from the root on, without those that aren't seen
abbrev pub seen_from : View → Option PlainSpan → List Seen
seen_from v None = []
seen_from v (Some s) = reverse (map seen_as (scope_of v.registry v.mask s.kin.id))

-- an event
abbrev pub heard_event : View → PlainEvent → Heard
heard_event v e =
    record {
      at = v.at;
      said = Happened e;
      loose = seen_from v (loose_leaf v e.parent);
      strict = seen_from v (event_span v e.parent);
    }

-- a call on a span that is seen
abbrev pub heard_call : View → PlainSpan → Call → Heard
heard_call v s call =
    record {
      at = v.at;
      said = OnSpan s.kin.id s.metadata call;
      loose = seen_from v (Some s);
      strict = seen_from v (Some s);
    }

-- what an output hears, and the registry of its stack at that time, without slots, which filters may look at
pub record Notice : Type 0 where
  pub heard : Heard
  pub within : RegistryValue

abbrev pub heards : List Notice → List Heard
heards ns = map (λ (n : Notice). n.heard) ns

-- what the filter of a number sees there and then
abbrev pub view_under : At → RegistryValue → ℕ → View
view_under at x number = record { at = at; registry = x; mask = Some number }

abbrev pub call_told : Option PlainSpan → RegistryValue → At → Call → ℕ → List Notice
call_told None x at call number = []
call_told (Some s) x at call number = (record { heard = heard_call (view_under at x number) s call; within = x }) ∷ []

-- a call on a span is told to the output of a number where it sees the span
abbrev pub span_told : RegistryValue → At → Call → ℕ → ℕ → List Notice
span_told x at call id number = call_told (seen x (Some number) id) x at call number

-- without a span
abbrev pub forgetting : RegistryValue → ℕ → RegistryValue
forgetting x id = record x { spans = dropped x.spans id }

-- spans close in this order, and each is gone for the next one
abbrev pub closes_told : RegistryValue → At → List ℕ → ℕ → List Notice
closes_told x at [] number = []
closes_told x at (id ∷ ids) number = span_told x at Closed id number ++ closes_told (forgetting x id) at ids number

-- all closes that nothing keeps open, a child before its parent
abbrev pub sweep_told : RegistryValue → At → ℕ → List Notice
sweep_told x at number = closes_told x at (ids_of (closing_in x)) number

-- an exit: the entry goes, the exit is told, and then the closes
abbrev pub exit_told : RegistryValue → At → ℕ → ℕ → List Notice
exit_told x at id number =
    span_told (without_entry x at.lane id) at Left id number ++ sweep_told (without_entry x at.lane id) at number

-- a handle goes, and then the closes are told
abbrev pub close_told : RegistryValue → At → ℕ → ℕ → List Notice
close_told x at id number = sweep_told (without_handle x id) at number

-- an entry, which stands there when it is told
abbrev pub enter_told : RegistryValue → At → ℕ → ℕ → List Notice
enter_told x at id number = span_told (with_entry x at.lane id) at Entered id number

-- an event is told where the mask says so
abbrev pub event_told : RegistryValue → At → PlainEvent → Bool → ℕ → List Notice
event_told x at e true number = (record { heard = heard_event (view_under at x number) e; within = x }) ∷ []
event_told x at e false number = []
