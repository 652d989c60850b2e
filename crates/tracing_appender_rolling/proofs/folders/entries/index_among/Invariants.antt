use Rattle.std.proofs.Common.{◌≡◌, ℕ, ◌<◌, get_or, true}
use Rattle.tracing_appender_rolling.specs.declared.folders.memory.FileEntry.{FileEntry}
use Rattle.tracing_appender_rolling.specs.folders.Entries.{comes_before}
use Rattle.tracing_appender_rolling.proofs.folders.entries.index_among.Given as goal

abbrev pub invariant-loop-index : goal.invariant-loop-index
invariant-loop-index l = (k : ℕ) (d : FileEntry) → k < l.index → comes_before (get_or l.entries k d) l.name ≡ true
