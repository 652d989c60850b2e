-- Timers whose texts don't steer a terminal.
use Rattle.std.specs.Prelude.{ℕ, ℤ, List, Option, string_bytes}
use Rattle.event_formatter_text.specs.HarmlessTexts.{LetsPass}
use Rattle.event_formatter.specs.declared.formats.timer.Timer.{Timer}
use Rattle.event_formatter.specs.declared.formats.timer.Timer.TheVariants as timer
use Rattle.span_tracing_laws.specs.harmless.Lines.{TellsHarmlessTimes}

-- a fixed text doesn't steer a terminal; of the other timers nothing is asked
abbrev pub IsTameTimer : Timer → Type 0
IsTameTimer (timer.System t) = Unit {0}
IsTameTimer (timer.Uptime t) = Unit {0}
IsTameTimer (timer.Fixed t) = LetsPass (string_bytes t.text)
IsTameTimer timer.Empty = Unit {0}

-- then no text of a moment does
abbrev pub TimersAreHarmless : (Timer → ℤ → ℕ → Option (List ℕ)) → Type 0
TimersAreHarmless text_at = (t : Timer) → IsTameTimer t → TellsHarmlessTimes (text_at t)
