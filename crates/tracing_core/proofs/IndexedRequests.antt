-- Requests at callsites that are told by their index.
use Rattle.std.proofs.Common.{◌≡◌, ℕ, Bool, List, length, Option, Some, None, Result, ap, sym, ◌∙◌, subst}
use Rattle.tracing_core_fields.specs.FieldSet.{field_names, set_callsite}
use Rattle.tracing_core_fields.specs.IndexedEntries.{indexed_entries}
use Rattle.tracing_core_fields.specs.PlainMetadata.{PlainMetadata}
use Rattle.tracing_core_fields.specs.ValueSet.{entries_of, fields_of_values}
use Rattle.tracing_core_fields.specs.declared.field.FieldSet.{FieldSet}
use Rattle.tracing_core_fields.specs.declared.indexed_values.IndexedValues.{IndexedValues}
use Rattle.tracing_core_fields.specs.declared.value_set.ValueSet.{ValueSet}
use Rattle.tracing_core_fields.specs.requests.Calls.{EventDispatched, Recorded, SpanMade}
use Rattle.tracing_core_fields.specs.requests.PlainRequests.{plain_values}
use Rattle.tracing_core_moments.specs.declared.at.At.{At}
use Rattle.tracing_core_fields.specs.declared.requests.callsite.Callsite.{Ghosts as SiteGhosts}
use Rattle.tracing_core_fields.specs.declared.requests.refusal.RequestError.{RequestError}
use Rattle.tracing_core_fields.specs.declared.requests.subscriber.Subscriber.{Ghosts}
use Rattle.tracing_core.specs.IndexedRequests.{AskAtGives, EventAtGives, RecordAtGives, SpanAtGives, request_at, values_at}
use Rattle.tracing_core.specs.CachePreservation.{PreservesCaches}
use Rattle.tracing_core.specs.TableRows.{KeptCallsite}
use Rattle.tracing_core.specs.Table.{Table}
use Rattle.tracing_core.specs.declared.hub.indexed.RequestParent.{RequestParent}
use Rattle.tracing_core.proofs.CachePreservation.{ask_keeps, call_keeps, itself_keeps}

-- the values of a set by the places of fields
pub values_are : (vs : ValueSet) (fs : FieldSet) (m : PlainMetadata) (values : IndexedValues) →
    entries_of vs ≡ indexed_entries (length (field_names fs)) values → fields_of_values vs ≡ fs → field_names fs ≡ m.field_names →
    set_callsite fs ≡ m.callsite → plain_values vs ≡ values_at m values
values_are vs fs m values entries fields names callsite =
    ap (λ (f : FieldSet). record { callsite = set_callsite f; names = field_names f; entries = entries_of vs }) fields
    ∙ ap (λ (es : List _). record { callsite = set_callsite fs; names = field_names fs; entries = es }) entries
    ∙ ap (λ (c : ℕ). record { callsite = c; names = field_names fs; entries = indexed_entries (length (field_names fs)) values }) callsite
    ∙ ap (λ (ns : List (List ℕ)). record { callsite = m.callsite; names = ns; entries = indexed_entries (length ns) values }) names

module _ {S C : Type 0} (g : Ghosts S) (h : SiteGhosts C) where
  pub asked_at_keeps : (o : Option (KeptCallsite C)) (at : At) (dispatch : Option ℕ) (t : Table S C) (result : Option Bool)
      (u : Table S C) → AskAtGives g h o at dispatch t result u → PreservesCaches g h t u
  asked_at_keeps None at dispatch t result u w = subst (PreservesCaches g h t) (sym w.1) (itself_keeps g h t)
  asked_at_keeps (Some row) at dispatch t result u w = ask_keeps g h (h.metadata_of row.callsite) at dispatch t u w.0 w.2 w.3

  pub event_keeps : (o : Option (KeptCallsite C)) (values : IndexedValues) (parent : RequestParent) (at : At) (dispatch : Option ℕ)
      (t : Table S C) (result : Option (Result (Unit {0}) RequestError)) (u : Table S C) →
      EventAtGives g h o values parent at dispatch t result u → PreservesCaches g h t u
  event_keeps None values parent at dispatch t result u w = subst (PreservesCaches g h t) (sym w.1) (itself_keeps g h t)
  event_keeps (Some row) values parent at dispatch t result u w =
      call_keeps g h (EventDispatched (request_at (h.metadata_of row.callsite) values parent) at) dispatch t u w.0 w.2

  pub span_keeps : (o : Option (KeptCallsite C)) (values : IndexedValues) (parent : RequestParent) (at : At) (dispatch : Option ℕ)
      (t : Table S C) (result : Option (Result (Option ℕ) RequestError)) (u : Table S C) →
      SpanAtGives g h o values parent at dispatch t result u → PreservesCaches g h t u
  span_keeps None values parent at dispatch t result u w = subst (PreservesCaches g h t) (sym w.1) (itself_keeps g h t)
  span_keeps (Some row) values parent at dispatch t result u w =
      call_keeps g h (SpanMade (request_at (h.metadata_of row.callsite) values parent) at) dispatch t u w.0 w.2

  pub record_keeps : (o : Option (KeptCallsite C)) (id : ℕ) (values : IndexedValues) (at : At) (dispatch : Option ℕ) (t : Table S C)
      (result : Option (Result (Unit {0}) RequestError)) (u : Table S C) → RecordAtGives g h o id values at dispatch t result u →
      PreservesCaches g h t u
  record_keeps None id values at dispatch t result u w = subst (PreservesCaches g h t) (sym w.1) (itself_keeps g h t)
  record_keeps (Some row) id values at dispatch t result u w =
      call_keeps g h (Recorded id (values_at (h.metadata_of row.callsite) values) at) dispatch t u w.0 w.2
