use Rattle.std.proofs.Common.{arith}
use Rattle.std.proofs.lemmas.List.{with_items_is}
use Rattle.tracing_core_fields.specs.requests.Calls.{Entered}
use Rattle.tracing_core.proofs.CachePreservation.{handed_keeps}
use Rattle.tracing_core.proofs.hub.Hub.enter.Goals as goal

pub returns-clause-keeps : goal.returns-clause-keeps
returns-clause-keeps g c =
    handed_keeps g.S.Subscriber g.C.Callsite (Entered c.args.span.now c.args.at) c.enter_at.result c.serial_of.ensures c.self.view_is
    c.deref_mut.ensures.value
    (with_items_is c.self.inside.subscribers c.enter_at.new.subscribers (omega arith)) c.enter_at.ensures
