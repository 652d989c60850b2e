use Rattle.span_tracing_outputs.specs.Turns.{own}
use Rattle.span_tracing_outputs.proofs.Stacks.{stack_follows}
use Rattle.span_tracing_outputs.proofs.laws.stack_follows.Goals as goal

pub returns : goal.returns
returns g c =
    stack_follows g.N.FormatFields g.E.FormatEvent.line_of g.F.Filter (c.layer_follows.ensures own (λ x m line answer y wrote. wrote)) _
    (λ layer t later told. told)
