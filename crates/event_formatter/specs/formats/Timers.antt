-- The texts of the timers.
use Rattle.std.specs.Prelude.{ℕ, ℤ, List, [], Option, Some, string_bytes}
use Rattle.event_formatter_lines.specs.times.Times.{moment_text, since, total, uptime_text}
use Rattle.event_formatter.specs.declared.formats.timer.Timer.{Timer}
use Rattle.event_formatter.specs.declared.formats.timer.Timer.TheVariants as timer

-- the text of a moment
abbrev pub text_at : Timer → ℤ → ℕ → Option (List ℕ)
text_at (timer.System t) s n = moment_text s n
text_at (timer.Uptime t) s n = Some (uptime_text (since (total t.seconds t.nanoseconds) (total s n)))
text_at (timer.Fixed t) s n = Some (string_bytes t.text)
text_at timer.Empty s n = Some []
