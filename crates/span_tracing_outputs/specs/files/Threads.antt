-- The threads that lines are told of.
use Rattle.std.specs.Option.{option_copied}
use Rattle.event_formatter.specs.fmt_layer.Threads.{PlainLane}
use Rattle.span_tracing_outputs.specs.declared.files.lane_thread.LaneThread.{LaneThread}

abbrev pub lane_of : LaneThread → PlainLane
lane_of thread = record { name = option_copied thread.name; id = thread.id }
