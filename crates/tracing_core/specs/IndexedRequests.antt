-- Requests at callsites that are told by their index.
use Rattle.std.specs.Prelude.{◌≡◌, ℕ, Bool, length, Option, Some, None, Result}
use Rattle.tracing_core_fields.specs.IndexedEntries.{indexed_entries}
use Rattle.tracing_core_fields.specs.PlainMetadata.{PlainMetadata}
use Rattle.tracing_core_fields.specs.declared.indexed_values.IndexedValues.{IndexedValues}
use Rattle.tracing_core_fields.specs.requests.Calls.{EventDispatched, Recorded, SpanMade}
use Rattle.tracing_core_fields.specs.requests.PlainRequests.{PlainRequest, PlainValues}
use Rattle.tracing_core_moments.specs.declared.at.At.{At}
use Rattle.tracing_core_fields.specs.declared.requests.callsite.Callsite.{Ghosts as SiteGhosts}
use Rattle.tracing_core_fields.specs.declared.requests.refusal.RequestError.{RequestError}
use Rattle.tracing_core_fields.specs.declared.requests.arguments.parent.Parent.{Parent}
use Rattle.tracing_core_fields.specs.declared.requests.arguments.parent.Parent.TheVariants.{Current, Explicit, Root}
use Rattle.tracing_core_fields.specs.declared.requests.subscriber.Subscriber.{Ghosts}
use Rattle.tracing_core.specs.Commands.{AskGives}
use Rattle.tracing_core.specs.HandleCalls.{HubGives}
use Rattle.tracing_core.specs.TableRows.{KeptCallsite}
use Rattle.tracing_core.specs.Table.{Table}
use Rattle.tracing_core.specs.declared.hub.indexed.RequestParent.{RequestParent}
use Rattle.tracing_core.specs.declared.hub.indexed.RequestParent.TheVariants as request

abbrev pub plain_parent : RequestParent → Parent
plain_parent request.Contextual = Current
plain_parent request.Root = Root
plain_parent (request.Explicit id) = Explicit id

-- values by the places of their fields, at a callsite of this metadata
abbrev pub values_at : PlainMetadata → IndexedValues → PlainValues
values_at m values = record { callsite = m.callsite; names = m.field_names; entries = indexed_entries (length m.field_names) values }

-- an event or a new span there
abbrev pub request_at : PlainMetadata → IndexedValues → RequestParent → PlainRequest
request_at m values parent = record { metadata = m; values = values_at m values; parent = plain_parent parent }

module _ {S C : Type 0} (g : Ghosts S) (h : SiteGhosts C) where
  -- the subscriber of the handle was asked, or no callsite stands there
  abbrev pub AskAtGives : Option (KeptCallsite C) → At → Option ℕ → Table S C → Option Bool → Table S C → Type 0
  AskAtGives None at dispatch t result u = (result ≡ None) × (u ≡ t)
  AskAtGives (Some row) at dispatch t result u =
      (answer : Bool) × (result ≡ Some answer) × AskGives g (h.metadata_of row.callsite) at dispatch t.subscribers answer u.subscribers ×
      (u ≡ record t { subscribers = u.subscribers })

  -- the subscriber of the handle took the event, or no callsite stands there
  abbrev pub EventAtGives : Option (KeptCallsite C) → IndexedValues → RequestParent → At → Option ℕ → Table S C →
      Option (Result (Unit {0}) RequestError) → Table S C → Type 0
  EventAtGives None values parent at dispatch t result u = (result ≡ None) × (u ≡ t)
  EventAtGives (Some row) values parent at dispatch t result u =
      (reply : Result (Unit {0}) RequestError) × (result ≡ Some reply) ×
      HubGives g (EventDispatched (request_at (h.metadata_of row.callsite) values parent) at) dispatch t reply u

  -- it took the new span, or no callsite stands there
  abbrev pub SpanAtGives : Option (KeptCallsite C) → IndexedValues → RequestParent → At → Option ℕ → Table S C →
      Option (Result (Option ℕ) RequestError) → Table S C → Type 0
  SpanAtGives None values parent at dispatch t result u = (result ≡ None) × (u ≡ t)
  SpanAtGives (Some row) values parent at dispatch t result u =
      (reply : Result (Option ℕ) RequestError) × (result ≡ Some reply) ×
      HubGives g (SpanMade (request_at (h.metadata_of row.callsite) values parent) at) dispatch t reply u

  -- it took the values of a span, or no callsite stands there
  abbrev pub RecordAtGives : Option (KeptCallsite C) → ℕ → IndexedValues → At → Option ℕ → Table S C →
      Option (Result (Unit {0}) RequestError) → Table S C → Type 0
  RecordAtGives None id values at dispatch t result u = (result ≡ None) × (u ≡ t)
  RecordAtGives (Some row) id values at dispatch t result u =
      (reply : Result (Unit {0}) RequestError) × (result ≡ Some reply) ×
      HubGives g (Recorded id (values_at (h.metadata_of row.callsite) values) at) dispatch t reply u
