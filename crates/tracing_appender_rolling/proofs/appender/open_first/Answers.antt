use Rattle.std.proofs.Common.{◌∙◌, subst, Ok}
use Rattle.std.specs.declared.alloc.AllocError.{AllocError}
use Rattle.tracing_appender_rolling.specs.declared.faults.Faults.{Faults}
use Rattle.tracing_appender_rolling.specs.Builders.{builder_names}
use Rattle.tracing_appender_rolling.specs.RetentionRemovals.{Prunes}
use Rattle.tracing_appender_rolling.proofs.BuildOutcome.{starved_first, fails_first}
use Rattle.tracing_appender_rolling.proofs.appender.open_first.Goals as goal

pub returns-in_default-clause-begins : goal.returns-in_default-clause-begins
returns-in_default-clause-begins g c = starved_first (builder_names c.args.builder.now) c.args.moment
    (g.D.Folder.contents c.args.folder.now)

pub returns-clause-begins : goal.returns-clause-begins
returns-clause-begins g c =
    let names = builder_names c.args.builder.now in
    let before = g.D.Folder.contents c.args.folder.now in
    let middle = g.D.Folder.contents c.prune_old_logs.new.folder in
    fails_first AllocError names c.args.moment c.as_str.result.now before middle (g.D.Folder.contents c.create_writer.new.folder)
    c.prune_old_logs.new.faults c.in-Err.failure (c.as_str.ensures.value ∙ c.in-Ok.ensures)
    (subst (λ (f : Faults). Prunes {E = AllocError} names f before (Ok tt) c.prune_old_logs.new.faults middle) c.none-faults.ensures
    c.in-Ok-prune_old_logs.ensures.pruned) c.in-Err.ensures.tries
