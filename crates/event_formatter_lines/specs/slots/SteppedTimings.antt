-- What an entry, an exit and a close make of how long a span was busy and idle.
use Rattle.std.specs.Option.{option_map}
use Rattle.tracing_core_moments.specs.declared.at.At.{At}
use Rattle.span_registry_layers_store.specs.Slots.{PlainSlot, Number, Text, Times, Words}
use Rattle.span_registry_layers_store.specs.declared.slot.Timings.{Timings}
use Rattle.event_formatter_lines.specs.times.SpanTimings.{deeper, shallower, until}
use Rattle.event_formatter_lines.specs.slots.FieldsAndTimings.{PlainKept}
use Rattle.event_formatter_lines.specs.declared.slots.timings.TimingStep.{TimingStep}
use Rattle.event_formatter_lines.specs.declared.slots.timings.TimingStep.TheVariants as step

abbrev pub timings_after : TimingStep → At → Timings → Timings
timings_after step.Enter at t = deeper (until t at.seconds at.nanoseconds)
timings_after step.Exit at t = shallower (until t at.seconds at.nanoseconds)
timings_after step.Close at t = until t at.seconds at.nanoseconds

-- the slot of timings after it
abbrev pub slot_after : TimingStep → At → PlainSlot → PlainSlot
slot_after step at (Times timings) = Times (timings_after step at timings)
slot_after step at (Text text) = Text text
slot_after step at (Number n) = Number n
slot_after step at (Words words) = Words words

-- what is kept once a span with timings was entered, left or closed
abbrev pub kept_stepped : TimingStep → At → PlainKept → PlainKept
kept_stepped step at kept = record kept { timings = option_map (timings_after step at) kept.timings }
