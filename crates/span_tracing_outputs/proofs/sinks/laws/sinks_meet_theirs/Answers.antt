use Rattle.span_tracing_outputs.proofs.sinks.SinkTurns.{meet_theirs}
use Rattle.span_tracing_outputs.proofs.sinks.laws.sinks_meet_theirs.Goals as goal

pub returns : goal.returns
returns g c = meet_theirs g.D.Folder.contents g.D.Folder.failed g.Q.LiveQueue.settles
