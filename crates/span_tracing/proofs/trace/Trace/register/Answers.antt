use Rattle.span_tracing.proofs.trace.Trace.register.Goals as goal

pub returns : goal.returns
returns g c = rw (← c.self.view_is) c.register.ensures.gives
