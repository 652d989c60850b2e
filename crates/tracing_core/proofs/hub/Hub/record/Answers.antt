use Rattle.std.proofs.Common.{arith}
use Rattle.std.proofs.lemmas.List.{with_items_is}
use Rattle.tracing_core_fields.specs.requests.Calls.{Recorded}
use Rattle.tracing_core_fields.specs.requests.PlainRequests.{plain_record}
use Rattle.tracing_core.proofs.CachePreservation.{handed_keeps}
use Rattle.tracing_core.proofs.hub.Hub.record.Goals as goal

pub returns-clause-keeps : goal.returns-clause-keeps
returns-clause-keeps g c =
    handed_keeps g.S.Subscriber g.C.Callsite (Recorded c.args.span.now (plain_record c.args.values.now) c.args.at) c.record_at.result
    c.serial_of.ensures c.self.view_is c.deref_mut.ensures.value
    (with_items_is c.self.inside.subscribers c.record_at.new.subscribers (omega arith)) c.record_at.ensures
