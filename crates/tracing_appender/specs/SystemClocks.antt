-- What a reading of the machine's clock answers.
use Rattle.std.specs.Prelude.{◌≡◌, Result, unwrap_or}
use Rattle.std.specs.declared.io.Error.{Error}
use Rattle.std.specs.declared.time.SystemTime.{SystemTime}
use Rattle.tracing_core_moments.specs.declared.moment.Moment.{Moment}
use Rattle.tracing_appender.specs.declared.system.SystemClock.{SystemClock}
use Rattle.tracing_appender.specs.ClockMoments.{told, nanoseconds_of}

-- the machine's clock was read so; where that tells no moment in range the last one is answered again
pub record ReadsMachine {R : Type 0} (old : SystemClock R) (moment : Moment) (new : SystemClock R) : Type 0 where
  pub reading : Result SystemTime Error
  pub answered : moment ≡ unwrap_or (told (nanoseconds_of reading)) old.last
  pub kept : new.last ≡ moment
  pub runtime_same : new.runtime ≡ old.runtime
