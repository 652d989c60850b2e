-- The sink with a number, and a trace with another sink in its place.
use Rattle.std.specs.Prelude.{ℕ, List, Option, Some, None, slice_get, slice_set}
use Rattle.span_tracing_outputs.specs.TraceStacks.{TraceStackValue}
use Rattle.span_tracing_outputs.specs.sinks.Routed.{Routed}
use Rattle.span_tracing_outputs.specs.sinks.SinkCalls.{sink_in, sink_place}
use Rattle.span_tracing_outputs.specs.declared.has_sinks.SinkPlace.{SinkPlace}
use Rattle.span_tracing_skeleton.specs.Looking.{output_in}
use Rattle.span_tracing_skeleton.specs.declared.setting.OutputPlace.{OutputPlace}
use Rattle.span_tracing_steps.specs.States.{StateValue, held_in, stack_in}
use Rattle.span_tracing_steps.specs.Steps.{becoming}
use Rattle.span_tracing_laws.specs.runs.StepFollows.{Traced}

module _ {T : Type 0} where
  -- with another stack under a number: that which somebody holds, or that which was released and waits
  abbrev pub put_where : Option T → StateValue T → ℕ → T → StateValue T
  put_where None v stack y = record v { retired = slice_set v.retired stack (Some y) }
  put_where (Some x) v stack y = becoming stack y v

  abbrev pub put_stack : StateValue T → ℕ → T → StateValue T
  put_stack v stack y = put_where (held_in v stack) v stack y

module _ {S : Type 0} where
  -- outputs with another sink at a place
  abbrev pub put_there : Option (Routed S) → List (Routed S) → SinkPlace → S → List (Routed S)
  put_there None outputs at s = outputs
  put_there (Some o) outputs at s = slice_set outputs at.output (record o { sinks = slice_set o.sinks at.sink s })

  abbrev pub put_at : Option SinkPlace → List (Routed S) → S → List (Routed S)
  put_at None outputs s = outputs
  put_at (Some at) outputs s = put_there (slice_get outputs at.output) outputs at s

  -- outputs with another sink under a number
  abbrev pub put_sink : List (Routed S) → ℕ → S → List (Routed S)
  put_sink outputs number s = put_at (sink_place outputs 0 number) outputs s

module _ {N E F S : Type 0} where
  -- the sink with a number of a stack
  abbrev pub sink_with : Option (TraceStackValue N E F (Routed S)) → ℕ → Option S
  sink_with None number = None
  sink_with (Some x) number = sink_in x.sinks number

  abbrev pub sink_where : Option OutputPlace → Traced N E F (Routed S) → Option S
  sink_where None v = None
  sink_where (Some at) v = sink_with (stack_in v at.stack) at.place

  -- the sink with a number of a trace
  abbrev pub sink_at : Traced N E F (Routed S) → ℕ → Option S
  sink_at v number = sink_where (output_in v.sinks 0 number) v

  -- a trace with another sink in a stack
  abbrev pub changed_with : Option (TraceStackValue N E F (Routed S)) → Traced N E F (Routed S) → OutputPlace → S → Traced N E F (Routed S)
  changed_with None v at s = v
  changed_with (Some x) v at s = put_stack v at.stack (record x { sinks = put_sink x.sinks at.place s })

  abbrev pub changed_where : Option OutputPlace → Traced N E F (Routed S) → S → Traced N E F (Routed S)
  changed_where None v s = v
  changed_where (Some at) v s = changed_with (stack_in v at.stack) v at s

  -- a trace with another sink under a number
  abbrev pub with_sink : Traced N E F (Routed S) → ℕ → S → Traced N E F (Routed S)
  with_sink v number s = changed_where (output_in v.sinks 0 number) v s
