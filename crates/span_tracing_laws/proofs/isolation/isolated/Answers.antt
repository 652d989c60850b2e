use Rattle.span_tracing_laws.proofs.isolation.IsolatedRuns.{isolated}
use Rattle.span_tracing_laws.proofs.isolation.isolated.Goals as goal

pub returns : goal.returns
returns g c = isolated g.D.Folder.contents g.D.Folder.failed g.N.FormatFields g.E.FormatEvent.line_of g.F.Filter _ g.Q.LiveQueue.settles
    c.nothing_is_starved.ensures c.sinks_meet_theirs.ensures c.lines_have_one_end.ensures c.runs_are_told.ensures
    c.drops_are_counted.ensures.exact c.stays_counted.ensures c.steps_have_one_end.ensures c.drops_are_exact.ensures
