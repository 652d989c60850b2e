use Rattle.std.proofs.Common.{arith}
use Rattle.std.proofs.lemmas.List.{with_items_is}
use Rattle.tracing_core_fields.specs.Metadata.{plain_metadata}
use Rattle.tracing_core_fields.specs.requests.Calls.{CallsiteRegistered}
use Rattle.tracing_core.proofs.CachePreservation.{handed_keeps}
use Rattle.tracing_core.proofs.hub.Hub.register_callsite.Goals as goal

pub returns-clause-keeps : goal.returns-clause-keeps
returns-clause-keeps g c =
    handed_keeps g.S.Subscriber g.C.Callsite (CallsiteRegistered (plain_metadata c.args.metadata.now)) c.register_callsite_at.result
    c.serial_of.ensures c.self.view_is c.deref_mut.ensures.value
    (with_items_is c.self.inside.subscribers c.register_callsite_at.new.subscribers (omega arith)) c.register_callsite_at.ensures.handed
