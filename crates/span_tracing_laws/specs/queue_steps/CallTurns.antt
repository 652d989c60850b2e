-- Calls on the queues of two sinks, in the one order and in the other.
use Rattle.std.specs.Prelude.{◌≢◌, ℕ, Option}
use Rattle.tracing_appender_rolling.specs.folders.Contents.{Contents}
use Rattle.span_tracing_outputs.specs.sinks.SinkCalls.{CallsIn}
use Rattle.span_tracing_skeleton.specs.declared.call.Reply.{Reply}
use Rattle.span_tracing_skeleton.specs.declared.queue_call.QueueCall.{QueueCall}
use Rattle.span_tracing_steps.specs.SinkCalls.{DriveGives}
use Rattle.span_tracing_laws.specs.runs.DrivenSinks.{drives}

-- Neighbouring calls on the queues of the sinks with two numbers may change places: each is answered as before, and both leave the same.
pub record CallsMayChangePlaces {T : Type 0} (gives : T → ℕ → QueueCall → Reply → T → Type 0) : Type 0 where
  pub each : (u v w : T) (one other : ℕ) (call later : QueueCall) (reply answer : Reply) → one ≢ other → gives u one call reply v →
      gives v other later answer w → (instead : T) × gives u other later answer instead × gives instead one call reply w

-- so may those on the sinks of a trace, which are numbered through all its stacks
abbrev pub TraceCallsMayChangePlaces : (N E F Q : Type 0) {D : Type 0} → (D → Option Contents) → (D → ℕ) → Type 0
TraceCallsMayChangePlaces N E F Q contents failed =
    CallsMayChangePlaces (DriveGives (drives (CallsIn {Q = Q} contents failed) {N = N} {E = E} {F = F}))
