use Rattle.std.proofs.Common.{◌≡◌, ◌↔◌, length}
use Rattle.span_tracing_shared.specs.Closing.{AllOwn, AllAlone, shared_by, Closes}
use Rattle.span_tracing_shared.specs.Entries.{plain_journal}
use Rattle.span_tracing_shared.proofs.closes.closes.Given as goal

abbrev pub invariant-loop-rest : goal.invariant-loop-rest
invariant-loop-rest g l =
    (AllOwn l.rest (plain_journal l.fn.journal) × AllAlone l.rest × (shared_by l.rest ≡ l.left))
    ↔ Closes l.fn.seats (plain_journal l.fn.journal)

abbrev pub decreases-loop-rest : goal.decreases-loop-rest
decreases-loop-rest g l = length l.rest
