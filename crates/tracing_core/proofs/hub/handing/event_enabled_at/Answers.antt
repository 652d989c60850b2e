use Rattle.std.proofs.Common.{arith, refl}
use Rattle.tracing_core_fields.specs.requests.Calls.{EventAsked}
use Rattle.tracing_core_fields.specs.requests.PlainRequests.{plain_event}
use Rattle.tracing_core.proofs.HandleCalls.{to_nobody, to_opened}
use Rattle.tracing_core.proofs.hub.handing.event_enabled_at.Goals as goal

pub returns-then-index-subscribers : goal.returns-then-index-subscribers
returns-then-index-subscribers g c =
    to_opened g.S.Subscriber (EventAsked (plain_event c.args.event.now) c.args.at) c.args.serial c.args.subscribers.now
    c.index_or_end-index.result c.index_or_end-index.ensures
    c.if-index-subscribers.true c.index-subscribers-index.result _ _ c.event_enabled.result c.registered.view_is refl
    c.event_enabled.ensures

pub returns-else-index-subscribers : goal.returns-else-index-subscribers
returns-else-index-subscribers g c =
    to_nobody g.S.Subscriber (EventAsked (plain_event c.args.event.now) c.args.at) c.args.serial c.args.subscribers.now
    c.index_or_end-index.result c.index_or_end-index.ensures (omega arith)
