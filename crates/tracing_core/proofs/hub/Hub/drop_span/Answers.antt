use Rattle.std.proofs.Common.{arith}
use Rattle.std.proofs.lemmas.List.{with_items_is}
use Rattle.tracing_core_fields.specs.requests.Calls.{Dropped}
use Rattle.tracing_core.proofs.CachePreservation.{handed_keeps}
use Rattle.tracing_core.proofs.hub.Hub.drop_span.Goals as goal

pub returns-clause-keeps : goal.returns-clause-keeps
returns-clause-keeps g c =
    handed_keeps g.S.Subscriber g.C.Callsite (Dropped c.args.span c.args.at) tt c.serial_of.ensures c.self.view_is c.deref_mut.ensures.value
    (with_items_is c.self.inside.subscribers c.drop_span_at.new.subscribers (omega arith)) c.drop_span_at.ensures
