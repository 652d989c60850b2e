use Rattle.std.proofs.Common.{ℕ, List, ap, refl}
use Rattle.tracing_core.specs.PlainValue.{PlainValue}
use Rattle.span_tracing.specs.PlainData.{EventStep, OfTrace}
use Rattle.span_tracing.specs.Parent.TheVariants.{Contextual}
use Rattle.uses.proofs.Steps.{gives_named}
use Rattle.uses.proofs.program.log_both.Goals as goal

pub returns-clause-gives : goal.returns-clause-gives
returns-clause-gives c = (
  c.event-reply.new.self,
  gives_named _ _ _ _ _ _ _ _ _ _ _ _
      (ap (λ (vs : List (ℕ × PlainValue)). OfTrace (EventStep (record
      { lane = 0; moment = c.args.moment; callsite = c.args.callsite.0; parent = Contextual; values = vs }))) c.message.ensures)
      c.event-reply.ensures,
  (
    c.event-last.new.self,
    gives_named _ _ _ _ _ _ _ _ _ _ _ _
        (ap (λ (vs : List (ℕ × PlainValue)). OfTrace (EventStep
        (record { lane = 0; moment = c.args.moment; callsite = c.args.callsite.0; parent = Contextual; values = vs })))
        c.message-2.ensures)
        c.event-last.ensures,
    refl,
  ),
)

pub returns-clause-run : goal.returns-clause-run
returns-clause-run c =
    c.calls_make_runs.ensures.files _ _ _ _ _ (
      c.event-reply.new.self,
      gives_named _ _ _ _ _ _ _ _ _ _ _ _
          (ap (λ (vs : List (ℕ × PlainValue)). OfTrace (EventStep
          (record { lane = 0; moment = c.args.moment; callsite = c.args.callsite.0; parent = Contextual; values = vs })))
          c.message.ensures)
          c.event-reply.ensures,
      (
        c.event-last.new.self,
        gives_named _ _ _ _ _ _ _ _ _ _ _ _
            (ap (λ (vs : List (ℕ × PlainValue)). OfTrace (EventStep
            (record { lane = 0; moment = c.args.moment; callsite = c.args.callsite.0; parent = Contextual; values = vs })))
            c.message-2.ensures)
            c.event-last.ensures,
        refl,
      ),
    )
