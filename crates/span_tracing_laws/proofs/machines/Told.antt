-- What outputs are told of a step is such, where callsites, spans and what the step brings are.
use Rattle.std.proofs.Common.{ℕ, Bool, true, false, List, [], ◌∷◌, map, Option, Some, None, IfSome, sym, subst}
use Rattle.std.proofs.ByRecursion.{All-append}
use Rattle.std.specs.List.{AllByRecursion}
use Rattle.std.specs.Prelude.{option_and_then, reverse}
use mathlib.Core.List.{reverse-cons}
use Rattle.tracing_core_fields.specs.PlainMetadata.{PlainMetadata}
use Rattle.tracing_core_fields.specs.PlainValue.{PlainValue}
use Rattle.tracing_core_fields.specs.requests.PlainRequests.{PlainEvent, PlainValues}
use Rattle.tracing_core_moments.specs.declared.at.At.{At}
use Rattle.span_registry_layers_store.specs.SlotIndependence.{ids_of}
use Rattle.span_registry_layers_store.specs.Registries.{PlainSpan, RegistryValue, closing_in, kin_in, one_less}
use Rattle.span_registry_layers_store.specs.Registries.{without_entry, without_handle}
use Rattle.span_registry_layers_store.specs.Spans.{found, line_of}
use Rattle.span_registry_layers_store.specs.Views.{all_seen, one_or_none, seen}
use Rattle.span_registry_layers_layers.specs.Contexts.{event_span}
use Rattle.span_registry_layers_layers.specs.FilterViews.{View}
use Rattle.event_formatter.specs.formats.Scopes.{loose_leaf}
use Rattle.span_tracing_outputs.specs.OutputNotices.{Notice, call_told, closes_told, event_told, exit_told, forgetting, seen_as, seen_from}
use Rattle.span_tracing_outputs.specs.OutputNotices.{span_told, sweep_told, view_under}
use Rattle.span_tracing_outputs.specs.OutputMachines.{Call, Closed, Entered, Left, Made, Recorded, Seen}
use Rattle.span_tracing_outputs.specs.OutputFolds.{Numbered, call_lists, event_lists}
use Rattle.span_tracing_skeleton.specs.Acting.{parent_id}
use Rattle.span_tracing_skeleton.specs.Looking.{callsite_of, known, named, reach, registry_at}
use Rattle.span_tracing_skeleton.specs.Machine.{or_same}
use Rattle.span_tracing_skeleton.specs.Order.{refusal_of}
use Rattle.span_tracing_skeleton.specs.PlainData.{PlainStep, Request, RecordRequest, GlobalStep, EventStep, EnabledStep, SpanStep}
use Rattle.span_tracing_skeleton.specs.PlainData.{RecordStep, FollowsFromStep, EnterStep, ExitStep, CloneStep, CloseStep, DefaultStep}
use Rattle.span_tracing_skeleton.specs.PlainData.{ResetStep, CloneHandleStep, ReleaseStep, SetStep}
use Rattle.span_tracing_skeleton.specs.Skeleton.{Skeleton, Answers, Unasked, Wanted, Dropped, Passed, Heard}
use Rattle.span_tracing_skeleton.specs.declared.call.SpanCall.{SpanCall}
use Rattle.span_tracing_skeleton.specs.declared.call.SpanName.{SpanName}
use Rattle.span_tracing_skeleton.specs.declared.refusal.Refusal.{Refusal}
use Rattle.span_tracing_skeleton.specs.declared.setting.Setting.{Setting}
use Rattle.span_tracing_steps.specs.StackRequests.{own_values, place_at, request_of}
use Rattle.span_tracing_laws.specs.machines.Said.{CallIs, HeardIs}
use Rattle.span_tracing_laws.specs.machines.Steps.{BringsBy, IsSkeletonOf}
use Rattle.span_tracing_laws.specs.runs.StepNotices.{Told, close_told_by, enter_told_by, event_told_by, exit_told_by, record_told_by}
use Rattle.span_tracing_laws.specs.runs.StepNotices.{span_told_by, told_by, told_of, values_told_by}
use Rattle.span_tracing_laws.proofs.machines.Skeletons.{AreSpans, IsSpan, changed_is, dropped_is, found_in, known_is, seen_is, spans_are}
use Rattle.span_tracing_laws.proofs.machines.Skeletons.{with_span_is}

-- the spans of a scope
module _ (S : Seen → Type 0) (M : PlainMetadata → Type 0) (seen_as_is : (x : PlainSpan) → M x.metadata → S (seen_as x)) where
  one_is : (o : Option PlainSpan) → IfSome o (IsSpan M) → AreSpans M (one_or_none o)
  one_is None is = tt
  one_is (Some s) is = (is, tt)

  all_seen_are : (x : RegistryValue) (mask : Option ℕ) (ids : List ℕ) → AreSpans M x.spans → AreSpans M (all_seen x mask ids)
  all_seen_are x mask [] all = tt
  all_seen_are x mask (id ∷ ids) all =
      All-append (IsSpan M) (one_or_none (seen x mask id)) (all_seen x mask ids)
      (one_is (seen x mask id) (seen_is M mask (found kin_in x.spans id) (found_in M x.spans id all))) (all_seen_are x mask ids all)

  seen_as_are : (xs : List PlainSpan) → AreSpans M xs → AllByRecursion S (map seen_as xs)
  seen_as_are [] all = tt
  seen_as_are (x ∷ xs) all = (seen_as_is x all.0, seen_as_are xs all.1)

  reversed_are : (xs : List Seen) → AllByRecursion S xs → AllByRecursion S (reverse xs)
  reversed_are [] all = tt
  reversed_are (x ∷ xs) all =
      subst (AllByRecursion S) (sym (reverse-cons x xs)) (All-append S (reverse xs) (x ∷ []) (reversed_are xs all.1) (all.0, tt))

  pub from_root_are : (v : View) (o : Option PlainSpan) → AreSpans M v.registry.spans → AllByRecursion S (seen_from v o)
  from_root_are v None all = tt
  from_root_are v (Some s) all =
      let line = line_of kin_in v.registry.spans s.kin.id in
      reversed_are (map seen_as (all_seen v.registry v.mask line))
      (seen_as_are (all_seen v.registry v.mask line) (all_seen_are v.registry v.mask line all))

-- each notice
module _ (S : Seen → Type 0) (M : PlainMetadata → Type 0) (V : PlainValues → Type 0) (Q : PlainEvent → Type 0)
    (seen_as_is : (x : PlainSpan) → M x.metadata → S (seen_as x)) where
  abbrev pub IsNotice : Notice → Type 0
  IsNotice n = HeardIs S M V Q n.heard

  abbrev pub AreSaid : List Notice → Type 0
  AreSaid ns = AllByRecursion IsNotice ns

  abbrev pub EachIsSaid : List (List Notice) → Type 0
  EachIsSaid nss = AllByRecursion AreSaid nss

  scope_is : (x : RegistryValue) (at : At) (number : ℕ) (o : Option PlainSpan) → AreSpans M x.spans →
      AllByRecursion S (seen_from (view_under at x number) o)
  scope_is x at number o all = from_root_are S M seen_as_is (view_under at x number) o all

  call_is_said : (o : Option PlainSpan) (x : RegistryValue) (at : At) (call : Call) (number : ℕ) → AreSpans M x.spans →
      IfSome o (IsSpan M) → CallIs V call → AreSaid (call_told o x at call number)
  call_is_said None x at call number all is values = tt
  call_is_said (Some s) x at call number all is values =
      let scope = scope_is x at number (Some s) all in
      (((scope, scope), (is, values)), tt)

  span_is_said : (x : RegistryValue) (at : At) (call : Call) (id number : ℕ) → AreSpans M x.spans → CallIs V call →
      AreSaid (span_told x at call id number)
  span_is_said x at call id number all values = call_is_said (seen x (Some number) id) x at call number all
      (seen_is M (Some number) (found kin_in x.spans id) (found_in M x.spans id all)) values

  closes_are_said : (x : RegistryValue) (at : At) (ids : List ℕ) (number : ℕ) → AreSpans M x.spans → AreSaid (closes_told x at ids number)
  closes_are_said x at [] number all = tt
  closes_are_said x at (id ∷ ids) number all =
      All-append IsNotice (span_told x at Closed id number) (closes_told (forgetting x id) at ids number)
      (span_is_said x at Closed id number all tt) (closes_are_said (forgetting x id) at ids number (dropped_is M x.spans id all))

  sweep_is_said : (x : RegistryValue) (at : At) (number : ℕ) → AreSpans M x.spans → AreSaid (sweep_told x at number)
  sweep_is_said x at number all = closes_are_said x at (ids_of (closing_in x)) number all

  exit_is_said : (x : RegistryValue) (at : At) (id number : ℕ) → AreSpans M x.spans → AreSaid (exit_told x at id number)
  exit_is_said x at id number all =
      let y = without_entry x at.lane id in
      All-append IsNotice (span_told y at Left id number) (sweep_told y at number)
      (span_is_said y at Left id number all tt) (sweep_is_said y at number all)

  calls_are_said : {N : Type 0} (ns : ℕ → List Notice) (outs : List (Numbered N)) → ((number : ℕ) → AreSaid (ns number)) →
      EachIsSaid (call_lists ns outs)
  calls_are_said ns [] each = tt
  calls_are_said ns (o ∷ outs) each = (each o.number, calls_are_said ns outs each)

  event_is_said : (x : RegistryValue) (at : At) (e : PlainEvent) (told : Bool) (number : ℕ) → AreSpans M x.spans → Q e →
      AreSaid (event_told x at e told number)
  event_is_said x at e true number all is =
      let v = view_under at x number in
      (((scope_is x at number (loose_leaf v e.parent) all, scope_is x at number (event_span v e.parent) all), is), tt)
  event_is_said x at e false number all is = tt

  events_are_said : {N : Type 0} (x : RegistryValue) (at : At) (e : PlainEvent) (mask : List Bool) (outs : List (Numbered N)) →
      AreSpans M x.spans → Q e → EachIsSaid (event_lists x at e mask outs)
  events_are_said x at e [] outs all is = tt
  events_are_said x at e (told ∷ mask) [] all is = tt
  events_are_said x at e (told ∷ mask) (o ∷ outs) all is =
      (event_is_said x at e told o.number all is, events_are_said x at e mask outs all is)

  abbrev pub ListsAreSaid : {N : Type 0} → Told N → Type 0
  ListsAreSaid {N} told = (outs : List (Numbered N)) → EachIsSaid (told.lists outs)

  -- what a step brings: an event, values of a new span, or more of them
  module _ (N : Type 0) (C : List PlainMetadata → Type 0) (E R : Request → Type 0) (D : List (ℕ × PlainValue) → Type 0)
      (A : Setting → Type 0) (find : (ms : List PlainMetadata) (number : ℕ) → C ms → IfSome (named ms number) M)
      (event_is : (s : Skeleton) (e : Request) → C s.callsites → E e → IfSome (known s e.callsite false) (λ m. Q (request_of m e)))
      (span_is : (s : Skeleton) (r : Request) → C s.callsites → R r → IfSome (known s r.callsite true) (λ m. V (own_values m r.values)))
      (record_is : (ms : List PlainMetadata) (number : ℕ) (values : List (ℕ × PlainValue)) → C ms → D values →
      IfSome (named ms number) (λ m. V (own_values m values))) where
    abbrev IsSuch : Skeleton → Type 0
    IsSuch s = IsSkeletonOf C M s

    event_told_is : (s : Skeleton) (e : Request) (o : Option ℕ) (k : Option PlainMetadata) (a : Answers) → IsSuch s →
        IfSome k (λ m. Q (request_of m e)) → IfSome (event_told_by N s e o k a) ListsAreSaid
    event_told_is s e None k a such is = tt
    event_told_is s e (Some stack) None a such is = tt
    event_told_is s e (Some stack) (Some m) Unasked such is = tt
    event_told_is s e (Some stack) (Some m) (Wanted b) such is = tt
    event_told_is s e (Some stack) (Some m) Dropped such is = tt
    event_told_is s e (Some stack) (Some m) (Passed passed) such is = tt
    event_told_is s e (Some stack) (Some m) (Heard passed told) such is =
        λ outs. events_are_said (registry_at s stack) (place_at e.lane e.moment) (request_of m e) told outs
        (spans_are M C find s stack such) is

    span_told_is : (s : Skeleton) (n : Request) (o : Option ℕ) (k : Option PlainMetadata) (a : Answers) → IsSuch s → IfSome k M →
        IfSome k (λ m. V (own_values m n.values)) → IfSome (span_told_by N s n o k a) ListsAreSaid
    span_told_is s n None k a such is values = tt
    span_told_is s n (Some stack) None a such is values = tt
    span_told_is s n (Some stack) (Some m) Unasked such is values = tt
    span_told_is s n (Some stack) (Some m) (Wanted b) such is values = tt
    span_told_is s n (Some stack) (Some m) Dropped such is values = tt
    span_told_is s n (Some stack) (Some m) (Passed passed) such is values =
        let x = registry_at s stack in
        λ outs. calls_are_said _ outs (λ number. span_is_said _ (place_at n.lane n.moment) (Made (request_of m n)) x.next_id
        number (with_span_is M x m (parent_id x n.lane n.parent) passed (spans_are M C find s stack such) is) values)
    span_told_is s n (Some stack) (Some m) (Heard passed told) such is values = tt

    values_told_is : (s : Skeleton) (r : RecordRequest) (name : SpanName) (o : Option PlainMetadata) → IsSuch s →
        IfSome o (λ m. V (own_values m r.values)) → IfSome (values_told_by N s r name o) ListsAreSaid
    values_told_is s r name None such values = tt
    values_told_is s r name (Some m) such values =
        λ outs. calls_are_said _ outs (λ number. span_is_said (registry_at s name.stack) (place_at r.lane r.moment)
        (Recorded (own_values m r.values)) name.id.value number (spans_are M C find s name.stack such) values)

    found_callsite : (s : Skeleton) (values : List (ℕ × PlainValue)) (o : Option PlainSpan) → IsSuch s → D values →
        IfSome (option_and_then (λ (x : PlainSpan). named s.callsites x.metadata.callsite) o) (λ m. V (own_values m values))
    found_callsite s values None such brings = tt
    found_callsite s values (Some x) such brings = record_is s.callsites x.metadata.callsite values such.callsites brings

    record_told_is : (s : Skeleton) (r : RecordRequest) (o : Option SpanName) → IsSuch s → D r.values →
        IfSome (record_told_by N s r o) ListsAreSaid
    record_told_is s r None such brings = tt
    record_told_is s r (Some name) such brings =
        values_told_is s r name (callsite_of s name) such
        (found_callsite s r.values (found kin_in (registry_at s name.stack).spans name.id.value) such brings)

    enter_told_is : (s : Skeleton) (call : SpanCall) (o : Option SpanName) → IsSuch s → IfSome (enter_told_by N s call o) ListsAreSaid
    enter_told_is s call None such = tt
    enter_told_is s call (Some name) such =
        λ outs. calls_are_said _ outs (λ number. span_is_said _ (place_at call.lane call.moment) Entered name.id.value number
        (spans_are M C find s name.stack such) tt)

    exit_told_is : (s : Skeleton) (call : SpanCall) (o : Option SpanName) → IsSuch s → IfSome (exit_told_by N s call o) ListsAreSaid
    exit_told_is s call None such = tt
    exit_told_is s call (Some name) such =
        λ outs. calls_are_said _ outs (λ number. exit_is_said (registry_at s name.stack) (place_at call.lane call.moment) name.id.value
        number (spans_are M C find s name.stack such))

    close_told_is : (s : Skeleton) (call : SpanCall) (o : Option SpanName) → IsSuch s → IfSome (close_told_by N s call o) ListsAreSaid
    close_told_is s call None such = tt
    close_told_is s call (Some name) such =
        λ outs. calls_are_said _ outs (λ number. sweep_is_said (without_handle (registry_at s name.stack) name.id.value)
        (place_at call.lane call.moment) number
        (changed_is M one_less (λ x is. is) (registry_at s name.stack).spans name.id.value (spans_are M C find s name.stack such)))

    told_is : (s : Skeleton) (step : PlainStep) (a : Answers) → IsSuch s → BringsBy E R D A step → IfSome (told_by N s step a) ListsAreSaid
    told_is s (GlobalStep handle) a such brings = tt
    told_is s (EventStep e) a such brings =
        event_told_is s e (reach s e.lane) (known s e.callsite false) a such (event_is s e such.callsites brings)
    told_is s (EnabledStep call) a such brings = tt
    told_is s (SpanStep n) a such brings =
        span_told_is s n (reach s n.lane) (known s n.callsite true) a such (known_is M C find s n.callsite true such)
        (span_is s n such.callsites brings)
    told_is s (RecordStep r) a such brings = record_told_is s r r.span such brings
    told_is s (FollowsFromStep call) a such brings = tt
    told_is s (EnterStep call) a such brings = enter_told_is s call call.span such
    told_is s (ExitStep call) a such brings = exit_told_is s call call.span such
    told_is s (CloneStep call) a such brings = tt
    told_is s (CloseStep call) a such brings = close_told_is s call call.span such
    told_is s (DefaultStep call) a such brings = tt
    told_is s (ResetStep call) a such brings = tt
    told_is s (CloneHandleStep handle) a such brings = tt
    told_is s (ReleaseStep handle) a such brings = tt
    told_is s (SetStep call) a such brings = tt

    unless_refused : (o : Option Refusal) (told : Option (Told N)) → IfSome told ListsAreSaid → IfSome (or_same o None told) ListsAreSaid
    unless_refused None told is = is
    unless_refused (Some refusal) told is = tt

    pub step_is_told : (s : Skeleton) (step : PlainStep) (a : Answers) → IsSuch s → BringsBy E R D A step →
        IfSome (told_of N s step a) ListsAreSaid
    step_is_told s step a such brings = unless_refused (refusal_of s step) (told_by N s step a) (told_is s step a such brings)
