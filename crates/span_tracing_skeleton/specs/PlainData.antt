-- Calls as plain data: numbers and lists, without where they lie in memory.
use Rattle.std.specs.Prelude.{ℕ, List, map, Option}
use Rattle.tracing_core_fields.specs.OwnedValues.{owned_entries}
use Rattle.tracing_core_fields.specs.PlainValue.{PlainValue}
use Rattle.tracing_core_moments.specs.declared.moment.Moment.{Moment}
use Rattle.span_tracing_skeleton.specs.declared.call.Parent.{Parent}
use Rattle.span_tracing_skeleton.specs.declared.call.SpanCall.{SpanCall}
use Rattle.span_tracing_skeleton.specs.declared.call.SpanName.{SpanName}
use Rattle.span_tracing_skeleton.specs.declared.call.EventCall.{EventCall}
use Rattle.span_tracing_skeleton.specs.declared.call.DefaultCall.{DefaultCall}
use Rattle.span_tracing_skeleton.specs.declared.call.EnabledCall.{EnabledCall}
use Rattle.span_tracing_skeleton.specs.declared.call.FollowsCall.{FollowsCall}
use Rattle.span_tracing_skeleton.specs.declared.call.NewSpanCall.{NewSpanCall}
use Rattle.span_tracing_skeleton.specs.declared.call.RecordCall.{RecordCall}
use Rattle.span_tracing_skeleton.specs.declared.call.ResetCall.{ResetCall}
use Rattle.span_tracing_skeleton.specs.declared.call.Step.{Step}
use Rattle.span_tracing_skeleton.specs.declared.queue_call.SinkCall.{SinkCall}
use Rattle.span_tracing_skeleton.specs.declared.setting.SettingCall.{SettingCall}
use Rattle.span_tracing_skeleton.specs.declared.call.Step.TheVariants as steps

-- a request on metadata: lane, moment, callsite, parent, and the indices of fields with their values
pub record Request : Type 0 where
  pub lane : ℕ
  pub moment : Moment
  pub callsite : ℕ
  pub parent : Parent
  pub values : List (ℕ × PlainValue)

-- values for a span: the indices of its callsite's fields with their values
pub record RecordRequest : Type 0 where
  pub lane : ℕ
  pub moment : Moment
  pub span : Option SpanName
  pub values : List (ℕ × PlainValue)

-- the span that it is a call on
abbrev pub on_span : RecordRequest → SpanCall
on_span r = record { lane = r.lane; moment = r.moment; span = r.span }

-- a step but those of queues
pub data PlainStep : Type 0 where
  GlobalStep : ℕ → PlainStep
  EventStep : Request → PlainStep
  EnabledStep : EnabledCall → PlainStep
  SpanStep : Request → PlainStep
  RecordStep : RecordRequest → PlainStep
  FollowsFromStep : FollowsCall → PlainStep
  EnterStep : SpanCall → PlainStep
  ExitStep : SpanCall → PlainStep
  CloneStep : SpanCall → PlainStep
  CloseStep : SpanCall → PlainStep
  DefaultStep : DefaultCall → PlainStep
  ResetStep : ResetCall → PlainStep
  CloneHandleStep : ℕ → PlainStep
  ReleaseStep : ℕ → PlainStep
  SetStep : SettingCall → PlainStep

-- any step: such a one, or a call on a sink's queue
pub data AnyStep : Type 0 where
  OfTrace : PlainStep → AnyStep
  OfQueue : SinkCall → AnyStep

abbrev pub event_request : EventCall → Request
event_request e = record {
  lane = e.lane;
  moment = e.moment;
  callsite = e.callsite.0;
  parent = e.parent;
  values =
      owned_entries e.values.items;
}

abbrev pub span_request : NewSpanCall → Request
span_request n = record {
  lane = n.lane;
  moment = n.moment;
  callsite = n.callsite.0;
  parent = n.parent;
  values =
      owned_entries n.values.items;
}

abbrev pub record_request : RecordCall → RecordRequest
record_request r = record { lane = r.lane; moment = r.moment; span = r.span; values = owned_entries r.values.items }

abbrev pub any_step : Step → AnyStep
any_step (steps.SetGlobalDefault handle) = OfTrace (GlobalStep handle)
any_step (steps.Event e) = OfTrace (EventStep (event_request e))
any_step (steps.Enabled call) = OfTrace (EnabledStep call)
any_step (steps.NewSpan n) = OfTrace (SpanStep (span_request n))
any_step (steps.Record r) = OfTrace (RecordStep (record_request r))
any_step (steps.RecordFollowsFrom call) = OfTrace (FollowsFromStep call)
any_step (steps.Enter call) = OfTrace (EnterStep call)
any_step (steps.Exit call) = OfTrace (ExitStep call)
any_step (steps.CloneSpan call) = OfTrace (CloneStep call)
any_step (steps.TryClose call) = OfTrace (CloseStep call)
any_step (steps.SetDefault call) = OfTrace (DefaultStep call)
any_step (steps.ResetDefault call) = OfTrace (ResetStep call)
any_step (steps.CloneHandle handle) = OfTrace (CloneHandleStep handle)
any_step (steps.Release handle) = OfTrace (ReleaseStep handle)
any_step (steps.Set call) = OfTrace (SetStep call)
any_step (steps.Queue call) = OfQueue call

abbrev pub any_steps : List Step → List AnyStep
any_steps ss = map any_step ss
