use Rattle.std.proofs.Common.{ap}
use Rattle.span_tracing_skeleton.specs.PlainData.{OfTrace, SetStep}
use Rattle.span_tracing_skeleton.specs.declared.setting.Setting.TheVariants.{SpanEvents}
use Rattle.span_tracing_skeleton.specs.declared.setting.SpanMoments.{SpanMoments}
use Rattle.span_tracing.proofs.TraceValue.{step_named}
use Rattle.span_tracing.proofs.steps.Trace+TraceStack+N+E+F+RoutedSinks+AnySink+D+Q.set_span_events.Goals as goal

pub returns : goal.returns
returns g c = step_named _ _ _ _ _ _ _ _ _ _ _ _
    (ap (λ (m : SpanMoments). OfTrace (SetStep (record { output = c.args.output; setting = SpanEvents m }))) c.moments_of.ensures)
    c.step.ensures
