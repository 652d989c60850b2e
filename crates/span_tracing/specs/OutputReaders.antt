-- What can be read of the outputs of a stack.
use Rattle.std.specs.Prelude.{ℕ, ◌+◌, min, List, [], ◌∷◌, Option, Some, None, slice_get}
use Rattle.std.specs.Option.{option_map}
use Rattle.tracing_appender_queue.specs.queued.QueuedWork.{with_lost}
use Rattle.span_tracing_skeleton.specs.Looking.{output_in}
use Rattle.span_tracing_skeleton.specs.declared.setting.OutputPlace.{OutputPlace}
use Rattle.span_tracing_outputs.specs.TraceStacks.{TraceStackValue}
use Rattle.span_tracing_outputs.specs.Turns.{Lined}
use Rattle.span_tracing_outputs.specs.sinks.AnySinks.{missed_by}
use Rattle.span_tracing_outputs.specs.sinks.Routed.{Routed}
use Rattle.span_tracing_outputs.specs.declared.sinks.any_sink.AnySink.{AnySink}
use Rattle.span_tracing_outputs.specs.declared.sinks.any_sink.AnySink.TheVariants.{Direct, Queued, Live}
use Rattle.span_tracing_steps.specs.States.{StateValue, stack_in}

-- how many texts and lines the output at a place of a stack missed before its sinks
abbrev pub starved_in : {N E F S : Type 0} → TraceStackValue N E F S → ℕ → Option ℕ
starved_in x place = option_map (λ (row : Lined _ _ _). row.output.layer.output.starved) (slice_get x.stack.rows place)

-- a count that stops at the greatest number
abbrev pub saturated : ℕ → ℕ → ℕ
saturated a b = min (a + b) 18446744073709551615

module _ {D Q : Type 0} where
  -- how many lines found no memory at sinks, beside what was missed before
  abbrev pub missed_by_all : ℕ → List (AnySink D Q) → ℕ
  missed_by_all before [] = before
  missed_by_all before (sink ∷ sinks) = missed_by_all (saturated before (missed_by sink)) sinks

  -- what a sink that had memory lost: lines that its folder didn't take whole; of a queued one also lines that it dropped, that came to its
  -- closed queue, and those behind its mark; of a live one those that came to its closed queue
  abbrev pub lost_by : AnySink D Q → ℕ
  lost_by (Direct sink) = sink.appender.faults.writes
  lost_by (Live sink) = sink.lost
  lost_by (Queued sink) =
      saturated (saturated sink.waiting.queue.dropped (with_lost sink.waiting.lost sink.appender.faults).writes) sink.waiting.queue.left

  -- what sinks lost so, beside what was lost before
  abbrev pub lost_by_all : ℕ → List (AnySink D Q) → ℕ
  lost_by_all before [] = before
  lost_by_all before (sink ∷ sinks) = lost_by_all (saturated before (lost_by sink)) sinks

  -- counts of the sinks of an output, beside a count before
  abbrev pub beside : (ℕ → List (AnySink D Q) → ℕ) → Option ℕ → Option (Routed (AnySink D Q)) → Option ℕ
  beside count None sinks = None
  beside count (Some before) None = Some before
  beside count (Some before) (Some routed) = Some (count before routed.sinks)

  module _ {N E F : Type 0} where
    abbrev pub starved_of : Option (TraceStackValue N E F (Routed (AnySink D Q))) → ℕ → Option ℕ
    starved_of None place = None
    starved_of (Some x) place = beside missed_by_all (starved_in x place) (slice_get x.sinks place)

    abbrev pub lost_of : Option (TraceStackValue N E F (Routed (AnySink D Q))) → ℕ → Option ℕ
    lost_of None place = None
    lost_of (Some x) place = beside lost_by_all (starved_of (Some x) place) (slice_get x.sinks place)

    -- what is counted of the output at a place, also where its stack was released and isn't taken yet
    abbrev pub counted : (Option (TraceStackValue N E F (Routed (AnySink D Q))) → ℕ → Option ℕ) →
        StateValue (TraceStackValue N E F (Routed (AnySink D Q))) → Option OutputPlace → Option ℕ
    counted count v None = None
    counted count v (Some at) = count (stack_in v at.stack) at.place

    -- how many texts and lines the output with a number missed where memory ran out, before its sinks or at one of them
    abbrev pub starved_at : StateValue (TraceStackValue N E F (Routed (AnySink D Q))) → ℕ → Option ℕ
    starved_at v output = counted starved_of v (output_in v.outputs 0 output)

    -- what is missing in its files: what it missed, and what its sinks lost
    abbrev pub lost_at : StateValue (TraceStackValue N E F (Routed (AnySink D Q))) → ℕ → Option ℕ
    lost_at v output = counted lost_of v (output_in v.outputs 0 output)
