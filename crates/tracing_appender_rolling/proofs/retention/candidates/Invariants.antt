use Rattle.std.proofs.Common.{◌≡◌, map, take}
use Rattle.tracing_appender_rolling.specs.Builders.{builder_names}
use Rattle.tracing_appender_rolling.specs.folders.ListedEntries.{listed_of}
use Rattle.tracing_appender_rolling.specs.Retention.{candidates_in, candidate_of}
use Rattle.tracing_appender_rolling.proofs.retention.candidates.Given as goal

abbrev pub invariant-loop-entry : goal.invariant-loop-entry
invariant-loop-entry l = map candidate_of l.all.items ≡ candidates_in (builder_names l.builder)
    (map listed_of (take l.entry-index l.entries))
