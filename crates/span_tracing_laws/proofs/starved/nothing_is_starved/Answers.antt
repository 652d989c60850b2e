use Rattle.span_tracing_outputs.specs.sinks.SinkCalls.{CallsIn, outputs_hold}
use Rattle.span_tracing_outputs.proofs.CalledSinks.{calls_keep_count}
use Rattle.span_tracing_laws.proofs.starved.CountedRuns.{counts_starved}
use Rattle.span_tracing_laws.proofs.starved.nothing_is_starved.Goals as goal

pub returns : goal.returns
returns g c =
    counts_starved g.N.FormatFields g.E.FormatEvent.line_of g.F.Filter _ (CallsIn g.D.Folder.contents g.D.Folder.failed) outputs_hold _
    c.runs_compose.ensures c.each_sink_has_its_run.ensures
    (λ number call olds reply news goes. calls_keep_count g.D.Folder.contents g.D.Folder.failed number call olds reply news goes)
