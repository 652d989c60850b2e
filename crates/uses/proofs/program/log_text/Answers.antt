use Rattle.std.proofs.Common.{ℕ, List, ap}
use Rattle.tracing_core.specs.PlainValue.{PlainValue}
use Rattle.span_tracing.specs.PlainData.{EventStep, OfTrace}
use Rattle.span_tracing.specs.Parent.TheVariants.{Contextual}
use Rattle.uses.proofs.Steps.{gives_named}
use Rattle.uses.proofs.program.log_text.Goals as goal

pub returns : goal.returns
returns c = gives_named _ _ _ _ _ _ _ _ _ _ _ _
    (ap (λ (vs : List (ℕ × PlainValue)). OfTrace (EventStep (record
    { lane = 0; moment = c.args.moment; callsite = c.args.callsite.0; parent = Contextual; values = vs }))) c.message.ensures)
    c.event.ensures
