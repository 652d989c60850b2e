-- How long a span was busy and idle.
use Rattle.std.specs.Prelude.{ℕ, ◌+◌, ◌-◌, ◌^◌, ℤ, min, nat_lt, if◌then◌else◌}
use Rattle.event_formatter_lines.specs.times.Times.{since, total}
use Rattle.span_registry_layers_store.specs.declared.slot.Timings.{Timings}

-- a sum that stops at 2^128 - 1
abbrev pub added : ℕ → ℕ → ℕ
added a b = min (a + b) (2 ^ 128 - 1)

-- neither yet
abbrev pub at_start : ℤ → ℕ → Timings
at_start seconds nanoseconds =
    record { busy = 0; idle = 0; depth = 0; last_seconds = seconds; last_nanoseconds = nanoseconds }

-- until the next moment that a span is told: the time since the last one is busy while the depth is above 0, else idle;
-- a moment that falls adds nothing, and the time goes on from there
abbrev pub until : Timings → ℤ → ℕ → Timings
until t seconds nanoseconds =
    let passed = since (total t.last_seconds t.last_nanoseconds) (total seconds nanoseconds) in
    (if nat_lt 0 t.depth then record t { busy = added t.busy passed; last_seconds = seconds; last_nanoseconds = nanoseconds }
    else record t { idle = added t.idle passed; last_seconds = seconds; last_nanoseconds = nanoseconds })

-- once more entered, once more left; the depth doesn't fall below 0
abbrev pub deeper : Timings → Timings
deeper t = record t { depth = min (t.depth + 1) (2 ^ 64 - 1) }

abbrev pub shallower : Timings → Timings
shallower t = record t { depth = t.depth - 1 }
