use Rattle.span_tracing_outputs.specs.sinks.SinkCalls.{CallsIn, outputs_hold}
use Rattle.span_tracing_laws.proofs.runs.CountedTraces.{trace_stays_counted}
use Rattle.span_tracing_laws.proofs.runs.traces_stay_counted.Goals as goal

pub returns : goal.returns
returns g c =
    trace_stays_counted _ _ _ _ (CallsIn g.D.Folder.contents g.D.Folder.failed) outputs_hold _ _ c.stays_counted.ensures
    c.setup_follows.ensures c.plain_steps_follow.ensures c.steps_follow.ensures
