-- What is known of what an output machine is told.
use Rattle.std.specs.List.{AllByRecursion}
use Rattle.tracing_core_fields.specs.PlainMetadata.{PlainMetadata}
use Rattle.tracing_core_fields.specs.requests.PlainRequests.{PlainEvent, PlainValues}
use Rattle.span_tracing_outputs.specs.OutputMachines.{Call, Closed, Entered, Happened, Heard, Left, Made, OnSpan, Recorded, Said, Seen}

-- the values that come with a call on a span are such
abbrev pub CallIs : (PlainValues → Type 0) → Call → Type 0
CallIs values_are (Made a) = values_are a.values
CallIs values_are (Recorded values) = values_are values
CallIs values_are Entered = Unit {0}
CallIs values_are Left = Unit {0}
CallIs values_are Closed = Unit {0}

-- a call is on a span of such metadata and comes with such values, and an event is such
abbrev pub SaidIs : (PlainMetadata → Type 0) → (PlainValues → Type 0) → (PlainEvent → Type 0) → Said → Type 0
SaidIs metadata_is values_are event_is (OnSpan id m call) = metadata_is m × CallIs values_are call
SaidIs metadata_is values_are event_is (Happened e) = event_is e

-- so are the spans of the scopes of a notice, and what is said
abbrev pub AreSeen : (Seen → Type 0) → Heard → Type 0
AreSeen seen_is h = AllByRecursion seen_is h.loose × AllByRecursion seen_is h.strict

abbrev pub HeardIs : (Seen → Type 0) → (PlainMetadata → Type 0) → (PlainValues → Type 0) → (PlainEvent → Type 0) → Heard → Type 0
HeardIs seen_is metadata_is values_are event_is h = AreSeen seen_is h × SaidIs metadata_is values_are event_is h.said
