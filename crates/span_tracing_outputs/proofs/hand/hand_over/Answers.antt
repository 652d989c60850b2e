use Rattle.span_tracing_outputs.proofs.IgnoredEvents.{nothing_handed}
use Rattle.span_tracing_outputs.proofs.hand.hand_over.Goals as goal

pub returns-then-is_idle : goal.returns-then-is_idle
returns-then-is_idle g c = nothing_handed g.S.LineSink.takes c.args.at c.args.stack.now c.args.sinks.now
    (c.is_idle.ensures c.if-is_idle.true) c.requires
