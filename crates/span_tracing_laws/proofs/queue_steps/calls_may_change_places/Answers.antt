use Rattle.span_tracing_laws.proofs.queue_steps.OutputTurns.{stacks_turn}
use Rattle.span_tracing_laws.proofs.queue_steps.TraceTurns.{traces_turn}
use Rattle.span_tracing_outputs.specs.sinks.SinkCalls.{CallsIn}
use Rattle.span_tracing_laws.specs.runs.DrivenSinks.{drives}
use Rattle.span_tracing_laws.proofs.queue_steps.calls_may_change_places.Goals as goal

pub returns : goal.returns
returns g c =
    traces_turn (drives (CallsIn g.D.Folder.contents g.D.Folder.failed)) (stacks_turn _ g.D.Folder.contents g.D.Folder.failed)
