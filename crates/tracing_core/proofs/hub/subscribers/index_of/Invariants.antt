use Rattle.std.proofs.Common.{◌≡◌, ℕ, ◌<◌, ◌≤◌, get_or, false}
use Rattle.tracing_core.specs.TableRows.{KeptSubscriber}
use Rattle.tracing_core.specs.Handles.{is_of}
use Rattle.tracing_core.proofs.hub.subscribers.index_of.Given as goal

abbrev pub invariant-loop-subscriber : goal.invariant-loop-subscriber
invariant-loop-subscriber g l =
    (l.index ≡ l.subscriber-index) × ((k : ℕ) (d : KeptSubscriber g.row.S.Denot) → 0 ≤ k → k < l.index →
    is_of l.serial (get_or l.subscribers k d) ≡ false)
