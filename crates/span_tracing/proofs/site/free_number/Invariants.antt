use Rattle.std.proofs.Common.{◌≡◌, ◌<◌, ℕ, true, is_some}
use Rattle.span_tracing_skeleton.specs.Looking.{named}
use Rattle.span_tracing_steps.specs.States.{callsites_of}
use Rattle.span_tracing.proofs.site.free_number.Given as goal

abbrev pub invariant-loop-number : goal.invariant-loop-number
invariant-loop-number g l = (n : ℕ) → n < l.number → is_some (named (callsites_of l.trace.hub.callsites) n) ≡ true
