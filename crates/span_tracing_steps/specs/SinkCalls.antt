-- Calls on the queues of sinks, which are numbered through all stacks.
use Rattle.std.specs.Prelude.{◌≡◌, ℕ, slice_get, slice_set, Option, Some, None}
use Rattle.span_tracing_skeleton.specs.Looking.{inner, output_in}
use Rattle.span_tracing_skeleton.specs.declared.call.Reply.{Reply}
use Rattle.span_tracing_skeleton.specs.declared.call.Reply.TheVariants.{Refused}
use Rattle.span_tracing_skeleton.specs.declared.queue_call.QueueCall.{QueueCall}
use Rattle.span_tracing_skeleton.specs.declared.refusal.Refusal.TheVariants.{UnknownSink}
use Rattle.span_tracing_skeleton.specs.declared.setting.OutputPlace.{OutputPlace}
use Rattle.span_tracing_steps.specs.States.{StateValue, held_in}
use Rattle.span_tracing_steps.specs.Steps.{becoming}

module _ {T : Type 0} (drives : T → ℕ → QueueCall → Reply → T → Type 0) where
  -- the stack that was released and waits to be taken is called; where there is none, that is told
  abbrev pub WaitingCalled : StateValue T → OutputPlace → QueueCall → Option T → Reply → StateValue T → Type 0
  WaitingCalled v at call None reply w = (reply ≡ Refused UnknownSink) × (w ≡ v)
  WaitingCalled v at call (Some x) reply w =
      (y : T) × drives x at.place call reply y × (w ≡ record v { retired = slice_set v.retired at.stack (Some y) })

  -- so is the stack that somebody holds, where somebody does
  abbrev pub StackCalled : StateValue T → OutputPlace → QueueCall → Option T → Option T → Reply → StateValue T → Type 0
  StackCalled v at call (Some x) waits reply w = (y : T) × drives x at.place call reply y × (w ≡ becoming at.stack y v)
  StackCalled v at call None waits reply w = WaitingCalled v at call waits reply w

  abbrev pub PlaceCalled : StateValue T → Option OutputPlace → QueueCall → Reply → StateValue T → Type 0
  PlaceCalled v None call reply w = (reply ≡ Refused UnknownSink) × (w ≡ v)
  PlaceCalled v (Some at) call reply w =
      StackCalled v at call (held_in v at.stack) (inner (slice_get v.retired at.stack)) reply w

  -- The stack of the sink with a number does so to the sink's queue, and nothing else changes. Where no sink has the number, or its stack
  -- was taken, that is told.
  abbrev pub DriveGives : StateValue T → ℕ → QueueCall → Reply → StateValue T → Type 0
  DriveGives v sink call reply w = PlaceCalled v (output_in v.sinks 0 sink) call reply w
