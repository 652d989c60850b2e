use Rattle.std.proofs.Common.{◌≡◌, ◌<◌, ℕ, true}
use Rattle.tracing_appender_rolling.specs.folders.Disks.{is_open_at}
use Rattle.tracing_appender_rolling.proofs.folders.system.first_free.Given as goal

abbrev pub invariant-loop-index : goal.invariant-loop-index
invariant-loop-index g l = (n : ℕ) → n < l.index → is_open_at l.slots n ≡ true
