use Rattle.std.proofs.Common.{arith}
use Rattle.std.proofs.lemmas.List.{with_items_is}
use Rattle.tracing_core_fields.specs.requests.Calls.{FollowsRecorded}
use Rattle.tracing_core.proofs.CachePreservation.{handed_keeps}
use Rattle.tracing_core.proofs.hub.Hub.record_follows_from.Goals as goal

pub returns-clause-keeps : goal.returns-clause-keeps
returns-clause-keeps g c =
    handed_keeps g.S.Subscriber g.C.Callsite (FollowsRecorded c.args.span.now c.args.follows.now c.args.at) c.record_follows_from_at.result
    c.serial_of.ensures c.self.view_is c.deref_mut.ensures.value
    (with_items_is c.self.inside.subscribers c.record_follows_from_at.new.subscribers (omega arith)) c.record_follows_from_at.ensures
