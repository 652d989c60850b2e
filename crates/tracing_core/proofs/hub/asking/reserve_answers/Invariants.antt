use Rattle.std.proofs.Common.{◌≡◌}
use Rattle.tracing_core.proofs.hub.asking.reserve_answers.Given as goal

abbrev pub invariant-loop-subscriber : goal.invariant-loop-subscriber
invariant-loop-subscriber g l = l.subscribers ≡ l.fn.subscribers
