-- A call on the queue of a sink is answered as a queue may answer it.
use Rattle.std.proofs.Common.{◌≡◌, ℕ, not, Bool, true, false, List, Option, Some, None, Result, Ok, Err, refl, sym, ap, subst, slice_get}
use Rattle.tracing_core_moments.specs.declared.moment.Moment.{Moment}
use Rattle.tracing_core_moments.specs.Moments.{is_moment}
use Rattle.tracing_appender_rolling.specs.folders.Contents.{Contents}
use Rattle.tracing_appender_queue.specs.declared.state.MarkError.{MarkError}
use Rattle.tracing_appender_queue.specs.declared.state.MarkError.TheVariants as mark
use Rattle.tracing_appender_queue.specs.declared.queued.fate.AdmitError.{AdmitError}
use Rattle.tracing_appender_queue.specs.declared.queued.fate.AdmitError.TheVariants as admit
use Rattle.tracing_appender_queue.specs.declared.queued.queued_sink.QueuedSink.{QueuedSink}
use Rattle.span_tracing_outputs.specs.TraceStacks.{TraceStackValue}
use Rattle.span_tracing_outputs.specs.sinks.AnySinks.{CallsAny, CallsQueue, WorksIf, admit_reply, shutdown_reply}
use Rattle.span_tracing_outputs.specs.sinks.Routed.{Routed}
use Rattle.span_tracing_outputs.specs.sinks.SinkCalls.{CallsAt, CallsIn, CallsRouted, ReachesIf, sink_place}
use Rattle.span_tracing_outputs.specs.declared.has_sinks.SinkPlace.{SinkPlace}
use Rattle.span_tracing_outputs.specs.declared.sinks.any_sink.AnySink.{AnySink}
use Rattle.span_tracing_outputs.specs.declared.sinks.any_sink.AnySink.TheVariants.{Direct, Queued, Live}
use Rattle.span_tracing_skeleton.specs.Looking.{inner, output_in}
use Rattle.span_tracing_skeleton.specs.declared.call.Reply.{Reply}
use Rattle.span_tracing_skeleton.specs.declared.call.Reply.TheVariants.{Refused, Worked}
use Rattle.span_tracing_skeleton.specs.declared.queue_call.QueueCall.{QueueCall}
use Rattle.span_tracing_skeleton.specs.declared.queue_call.QueueCall.TheVariants.{Work, Admit, Shutdown}
use Rattle.span_tracing_skeleton.specs.declared.refusal.Refusal.TheVariants.{BadMoment, NotQueued, UnknownSink}
use Rattle.span_tracing_skeleton.specs.declared.setting.OutputPlace.{OutputPlace}
use Rattle.span_tracing_steps.specs.SinkCalls.{DriveGives, PlaceCalled, StackCalled, WaitingCalled}
use Rattle.span_tracing_steps.specs.States.{StateValue, held_in}
use Rattle.span_tracing_shared.specs.Journals.{counts, may_answer, queue_reply}
use Rattle.span_tracing_laws.specs.runs.DrivenSinks.{drives}

-- a reply that counts is one that a queue may give
record MayTell (call : QueueCall) (reply : Reply) : Type 0 where
  is : counts reply ≡ true → may_answer call reply ≡ true

told_as : (call : QueueCall) (reply told : Reply) → reply ≡ told → MayTell call told → MayTell call reply
told_as call reply told same may = subst (MayTell call) (sym same) may

unknown_told : (call : QueueCall) → MayTell call (Refused UnknownSink)
unknown_told (Work lines m) = record { is = λ counted. refl }
unknown_told Admit = record { is = λ counted. refl }
unknown_told Shutdown = record { is = λ counted. refl }

direct_told : (call : QueueCall) → MayTell call (Refused NotQueued)
direct_told (Work lines m) = record { is = λ counted. refl }
direct_told Admit = record { is = λ counted. refl }
direct_told Shutdown = record { is = λ counted. refl }

admit_told : (result : Result (Unit {0}) AdmitError) → MayTell Admit (admit_reply result)
admit_told (Ok done) = record { is = λ counted. refl }
admit_told (Err admit.NothingHeld) = record { is = λ counted. refl }
admit_told (Err admit.Closed) = record { is = λ counted. refl }
admit_told (Err admit.NoRoom) = record { is = λ counted. refl }
admit_told (Err admit.OutOfMemory) = record { is = λ counted. counted }

shutdown_told : (result : Result (Unit {0}) MarkError) → MayTell Shutdown (shutdown_reply result)
shutdown_told (Ok done) = record { is = λ counted. refl }
shutdown_told (Err mark.MarkSent) = record { is = λ counted. refl }
shutdown_told (Err mark.NoRoom) = record { is = λ counted. refl }

module _ {D : Type 0} (contents : D → Option Contents) (failed : D → ℕ) where
  work_told : (in_range : Bool) (lines : ℕ) (m : Moment) (old : QueuedSink D) (reply : Reply) (new : QueuedSink D) →
      is_moment m ≡ in_range → WorksIf contents failed in_range lines m old reply new → MayTell (Work lines m) reply
  work_told true lines m old reply new is works =
      told_as (Work lines m) reply (Worked works.0.taken) works.2 (record { is = λ counted. is })
  work_told false lines m old reply new is works =
      told_as (Work lines m) reply (Refused BadMoment) works.0 (record { is = λ counted. ap not is })

  queue_told : (call : QueueCall) (old : QueuedSink D) (reply : Reply) (new : QueuedSink D) → CallsQueue contents failed call old reply new →
      MayTell call reply
  queue_told (Work lines m) old reply new calls = work_told (is_moment m) lines m old reply new refl calls
  queue_told Admit old reply new calls = told_as Admit reply (admit_reply calls.0) calls.3 (admit_told calls.0)
  queue_told Shutdown old reply new calls = told_as Shutdown reply (shutdown_reply calls.0) calls.3 (shutdown_told calls.0)

reached_told : {A : Type 0} (becomes : A → Reply → A → Type 0) (call : QueueCall) → ((x : A) (reply : Reply) (y : A) → becomes x reply y →
    MayTell call reply) → (place : ℕ) (o : Option A) (xs : List A) (reply : Reply) (ys : List A) → ReachesIf becomes place o xs reply ys →
    MayTell call reply
reached_told becomes call each place None xs reply ys reaches =
    told_as call reply (Refused UnknownSink) reaches.0 (unknown_told call)
reached_told becomes call each place (Some x) xs reply ys reaches = each x reply reaches.0 reaches.1

module _ {D Q : Type 0} (contents : D → Option Contents) (failed : D → ℕ) where
  any_told : (old : AnySink D Q) (call : QueueCall) (reply : Reply) (new : AnySink D Q) → CallsAny contents failed old call reply new →
      MayTell call reply
  any_told (Direct old) call reply new calls = told_as call reply (Refused NotQueued) calls.0 (direct_told call)
  any_told (Live old) call reply new calls = told_as call reply (Refused NotQueued) calls.0 (direct_told call)
  any_told (Queued old) call reply (Queued new) calls = queue_told contents failed call old reply new calls
  any_told (Queued old) call reply (Live new) calls = absurd calls
  any_told (Queued old) call reply (Direct new) calls = absurd calls

  routed_told : (sink : ℕ) (call : QueueCall) (old : Routed (AnySink D Q)) (reply : Reply) (new : Routed (AnySink D Q)) →
      CallsRouted contents failed sink call old reply new → MayTell call reply
  routed_told sink call old reply new calls =
      reached_told (λ s r t. CallsAny contents failed s call r t) call (λ s r t any. any_told s call r t any) sink
      (slice_get old.sinks sink) old.sinks reply new.sinks calls.1

  at_told : (at : Option SinkPlace) (call : QueueCall) (olds : List (Routed (AnySink D Q))) (reply : Reply)
      (news : List (Routed (AnySink D Q))) → CallsAt contents failed at call olds reply news → MayTell call reply
  at_told None call olds reply news calls = told_as call reply (Refused UnknownSink) calls.0 (unknown_told call)
  at_told (Some at) call olds reply news calls =
      reached_told (λ o r p. CallsRouted contents failed at.sink call o r p) call (λ o r p routed. routed_told at.sink call o r p routed)
      at.output (slice_get olds at.output) olds reply news calls

module _ {T : Type 0} (drive : T → ℕ → QueueCall → Reply → T → Type 0)
    (each : (x : T) (number : ℕ) (call : QueueCall) (reply : Reply) (y : T) → drive x number call reply y → MayTell call reply) where
  waiting_told : (v : StateValue T) (at : OutputPlace) (call : QueueCall) (o : Option T) (reply : Reply) (w : StateValue T) →
      WaitingCalled drive v at call o reply w → MayTell call reply
  waiting_told v at call None reply w called = told_as call reply (Refused UnknownSink) called.0 (unknown_told call)
  waiting_told v at call (Some x) reply w called = each x at.place call reply called.0 called.1

  stack_told : (v : StateValue T) (at : OutputPlace) (call : QueueCall) (o waits : Option T) (reply : Reply) (w : StateValue T) →
      StackCalled drive v at call o waits reply w → MayTell call reply
  stack_told v at call (Some x) waits reply w called = each x at.place call reply called.0 called.1
  stack_told v at call None waits reply w called = waiting_told v at call waits reply w called

  by_place : (v : StateValue T) (place : Option OutputPlace) (call : QueueCall) (reply : Reply) (w : StateValue T) →
      PlaceCalled drive v place call reply w → counts reply ≡ true → queue_reply place call reply ≡ reply
  by_place v None call reply w called counted = sym called.0
  by_place v (Some at) call reply w called counted =
      let may = (stack_told v at call (held_in v at.stack) (inner (slice_get v.retired at.stack)) reply w called).is counted in
      rw may refl

module _ {N E F D Q : Type 0} (contents : D → Option Contents) (failed : D → ℕ) where
  -- what a call on a queue answered stands, where it counts
  pub driven_told : (v : StateValue (TraceStackValue N E F (Routed (AnySink D Q)))) (sink : ℕ) (call : QueueCall) (reply : Reply)
      (w : StateValue (TraceStackValue N E F (Routed (AnySink D Q)))) → DriveGives (drives (CallsIn contents failed)) v sink call reply w →
      counts reply ≡ true → queue_reply (output_in v.sinks 0 sink) call reply ≡ reply
  driven_told v sink call reply w gives counted =
      by_place (drives (CallsIn contents failed))
      (λ x number c r y drive. at_told contents failed (sink_place x.sinks 0 number) c x.sinks r y.sinks drive.1) v
      (output_in v.sinks 0 sink) call reply w gives counted
