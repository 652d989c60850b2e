use Rattle.std.proofs.Common.{ℕ, List, ap, refl}
use Rattle.tracing_core.specs.PlainValue.{PlainValue}
use Rattle.span_tracing.specs.PlainData.{EventStep, OfTrace}
use Rattle.span_tracing.specs.Parent.TheVariants.{Contextual}
use Rattle.uses.proofs.Steps.{gives_named, gives_told}
use Rattle.uses.proofs.two_stacks.log_apart.Goals as goal

pub returns-clause-run : goal.returns-clause-run
returns-clause-run c = (
  c.in-Guard.guard,
  c.reset_default-back.result,
  (
    c.set_default.new.self,
    gives_told _ _ _ _ _ _ _ _ _ _ _ _ c.in-Guard.is c.set_default.ensures,
    (
      c.event-reply.new.self,
      gives_named _ _ _ _ _ _ _ _ _ _ _ _
          (ap (λ (vs : List (ℕ × PlainValue)). OfTrace (EventStep
          (record { lane = c.args.lane; moment = c.args.moment; callsite = c.args.callsite.0; parent = Contextual; values = vs })))
          c.message.ensures)
          c.event-reply.ensures,
      (c.reset_default-back.new.self, c.reset_default-back.ensures.gives, refl),
    ),
  ),
)

pub returns-clause-ready : goal.returns-clause-ready
returns-clause-ready c = λ ready.
    (c.reset_default-back.ensures.follows (c.event-reply.ensures.follows (c.set_default.ensures.follows ready).1).1).1
