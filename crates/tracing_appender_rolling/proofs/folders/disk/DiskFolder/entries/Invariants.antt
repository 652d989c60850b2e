use Rattle.std.proofs.Common.{◌≡◌, true, All}
use Rattle.tracing_appender_rolling.specs.folders.Contents.{begins_with}
use Rattle.tracing_appender_rolling.specs.folders.ListedEntries.{listed_of}
use Rattle.tracing_appender_rolling.proofs.folders.disk.DiskFolder.entries.Given as goal

abbrev pub invariant-loop-entry : goal.invariant-loop-entry
invariant-loop-entry g l = All (λ e. begins_with l.prefix (listed_of e) ≡ true) l.all.items
