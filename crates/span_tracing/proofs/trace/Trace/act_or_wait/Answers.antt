use Rattle.span_tracing_skeleton.specs.PlainData.{any_step}
use Rattle.span_tracing_steps.proofs.AnySteps.{any_goes, any_waits}
use Rattle.span_tracing.proofs.trace.Trace.act_or_wait.Goals as goal

pub returns-then-must_wait : goal.returns-then-must_wait
returns-then-must_wait g c =
    any_waits g.T.Subscriber g.T.HasRegistry.registry_of g.T.HasOutputs.set g.T.HasSinks.drives g.T.HasSinks.holds c.args.self.now
    (any_step c.args.step.now) _ c.must_wait.ensures c.if-must_wait.true

pub returns : goal.returns
returns g c =
    any_goes g.T.Subscriber g.T.HasRegistry.registry_of g.T.HasOutputs.set g.T.HasSinks.drives g.T.HasSinks.holds c.args.self.now
    (any_step c.args.step.now) _ _ _ c.must_wait.ensures c.if-must_wait.false c.act.ensures
