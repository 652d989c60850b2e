use Rattle.span_tracing_outputs.proofs.sinks.DroppedLines.{counts_are_exact}
use Rattle.span_tracing_outputs.proofs.sinks.Fates.{drops_are_counted}
use Rattle.span_tracing_outputs.proofs.sinks.laws.drops_are_counted.Goals as goal

pub returns-clause-runs : goal.returns-clause-runs
returns-clause-runs g c = drops_are_counted g.D.Folder.contents g.D.Folder.failed

pub returns-clause-exact : goal.returns-clause-exact
returns-clause-exact g c = counts_are_exact
