use Rattle.std.proofs.Common.{refl}
use Rattle.tracing_core.proofs.HandleCalls.{changes_nobody, changes_somebody, met_at}
use Rattle.tracing_core.proofs.hub.lending.change_at.Goals as goal

pub returns-then-index-subscribers : goal.returns-then-index-subscribers
returns-then-index-subscribers g c =
    changes_somebody g.F.FnOnce c.args.change c.args.serial c.args.subscribers.now c.index_or_end-index.result c.index_or_end-index.ensures
    c.if-index-subscribers.true
    c.index-subscribers-index.result _ _ c.change.result c.registered.view_is refl (met_at g.F.FnOnce c.args.change c.change.ensures)

pub returns-else-index-subscribers : goal.returns-else-index-subscribers
returns-else-index-subscribers g c = changes_nobody g.F.FnOnce c.args.change c.args.serial c.args.subscribers.now
    c.index_or_end-index.result c.index_or_end-index.ensures c.if-index-subscribers.false
