use Rattle.std.proofs.Common.{arith, ◌<◌, length, map}
use Rattle.tracing_appender_rolling.specs.Builders.{builder_names}
use Rattle.tracing_appender_rolling.specs.Retention.{candidate_of}
use Rattle.tracing_appender_rolling.proofs.CandidateRemovals.{candidates_more}
use Rattle.tracing_appender_rolling.proofs.retention.candidates.Goals as goal

pub loop-entry-preserved : goal.loop-entry-preserved
loop-entry-preserved c =
    let lt : c.loop-entry.entry-index < length c.args.entries.now = omega arith in
    candidates_more (builder_names c.args.builder.now) c.args.entries.now c.loop-entry.entry-index c.entry-item.result
    (map candidate_of c.loop-entry.all.items) (map candidate_of c.add_candidate.new.all.items) lt c.entry-item.is c.loop-entry.invariant
    c.in_ok-add_candidate.ensures
