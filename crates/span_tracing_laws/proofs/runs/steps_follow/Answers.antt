use Rattle.span_tracing_outputs.specs.sinks.SinkCalls.{CallsIn, outputs_hold}
use Rattle.span_tracing_outputs.proofs.CalledSinks.{calls_keep_count}
use Rattle.span_tracing_laws.proofs.runs.AnySteps.{any_steps_follow}
use Rattle.span_tracing_laws.proofs.runs.steps_follow.Goals as goal

pub returns : goal.returns
returns g c =
    any_steps_follow g.N.FormatFields g.E.FormatEvent.line_of g.F.Filter _ (CallsIn g.D.Folder.contents g.D.Folder.failed) outputs_hold _ _
    (λ number call olds reply news goes. calls_keep_count g.D.Folder.contents g.D.Folder.failed number call olds reply news goes)
    c.plain_steps_follow.ensures
