use Rattle.std.proofs.Common.{arith}
use Rattle.std.proofs.lemmas.List.{with_items_is}
use Rattle.tracing_core.proofs.CachePreservation.{changed_keeps}
use Rattle.tracing_core.proofs.hub.Hub.with_subscriber_mut.Goals as goal

pub returns-clause-keeps : goal.returns-clause-keeps
returns-clause-keeps g c alike =
    changed_keeps g.S.Subscriber g.C.Callsite g.F.FnOnce c.args.change c.change_at.result alike c.serial_of.ensures c.self.view_is
    c.deref_mut.ensures.value
    (with_items_is c.self.inside.subscribers c.change_at.new.subscribers (omega arith)) c.change_at.ensures
