use Rattle.std.proofs.Common.{arith}
use Rattle.std.proofs.lemmas.List.{with_items_is}
use Rattle.tracing_core_fields.specs.requests.Calls.{EventDispatched}
use Rattle.tracing_core_fields.specs.requests.PlainRequests.{plain_event}
use Rattle.tracing_core.proofs.CachePreservation.{handed_keeps}
use Rattle.tracing_core.proofs.hub.Hub.event.Goals as goal

pub returns-clause-keeps : goal.returns-clause-keeps
returns-clause-keeps g c =
    handed_keeps g.S.Subscriber g.C.Callsite (EventDispatched (plain_event c.args.event.now) c.args.at) c.event_at.result c.serial_of.ensures
    c.self.view_is c.deref_mut.ensures.value
    (with_items_is c.self.inside.subscribers c.event_at.new.subscribers (omega arith)) c.event_at.ensures
