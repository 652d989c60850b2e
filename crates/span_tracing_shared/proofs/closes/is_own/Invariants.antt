use Rattle.std.proofs.Common.{◌≡◌, ◌↔◌, length}
use Rattle.span_tracing_shared.specs.Entries.{calls_of, plain_calls, plain_journal}
use Rattle.span_tracing_shared.proofs.closes.is_own.Given as goal

abbrev pub invariant-loop-rest : goal.invariant-loop-rest
invariant-loop-rest l =
    (plain_calls l.left ≡ calls_of l.fn.lane (plain_journal l.rest))
    ↔ (plain_calls l.fn.own ≡ calls_of l.fn.lane (plain_journal l.fn.journal))

abbrev pub decreases-loop-rest : goal.decreases-loop-rest
decreases-loop-rest l = length l.rest
