use Rattle.span_tracing_skeleton.specs.PlainData.{any_step}
use Rattle.span_tracing.proofs.steps.Trace+TraceStack+N+E+F+RoutedSinks+AnySink+D+Q.step.Goals as goal

pub returns : goal.returns
returns g c = record {
  gives = c.act_or_wait.ensures;
  follows = λ ready. c.steps_follow.ensures.each _ (any_step c.args.step.now) c.act_or_wait.result _ ready c.act_or_wait.ensures;
}
