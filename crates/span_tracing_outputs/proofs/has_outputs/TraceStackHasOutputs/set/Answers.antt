use Rattle.std.proofs.Common.{sym, subst}
use Rattle.span_tracing_outputs.specs.TraceStacks.{IsAtRest}
use Rattle.span_tracing_outputs.proofs.OutputSettings.{at_rest_stays}
use Rattle.span_tracing_outputs.proofs.has_outputs.TraceStackHasOutputs.set.Goals as goal

pub invariant_of-self : goal.invariant_of-self
invariant_of-self g c =
    subst (λ s. IsAtRest s c.self.inside.sinks) (sym c.set_output.ensures)
    (at_rest_stays c.self.inside.stack c.self.inside.sinks c.args.place c.args.setting c.self.invariant)
