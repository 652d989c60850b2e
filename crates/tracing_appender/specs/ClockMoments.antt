-- Moments as the machine's clock tells them: by the nanoseconds since 1970, where it could be read.
use Rattle.std.specs.Prelude.{ℕ, pos, ◌/◌, ◌%◌, Option, Some, None, Result, Ok, Err, if◌then◌else◌}
use Rattle.std.specs.Time.{system_time_nanos}
use Rattle.std.specs.declared.io.Error.{Error}
use Rattle.std.specs.declared.time.SystemTime.{SystemTime}
use Rattle.tracing_core_moments.specs.declared.moment.Moment.{Moment}
use Rattle.tracing_core_moments.specs.Moments.{is_moment}

abbrev pub moment_at : ℕ → Moment
moment_at n = record { seconds = pos (n / 1_000_000_000); nanoseconds = n % 1_000_000_000 }

abbrev pub in_range_or_none : Moment → Option Moment
in_range_or_none m = if is_moment m then Some m else None

-- the nanoseconds since 1970 that a reading told, where it succeeded
abbrev pub nanoseconds_of : Result SystemTime Error → Option ℕ
nanoseconds_of (Ok time) = Some (system_time_nanos time)
nanoseconds_of (Err e) = None

-- a moment out of range is told as none
abbrev pub told : Option ℕ → Option Moment
told None = None
told (Some n) = in_range_or_none (moment_at n)
