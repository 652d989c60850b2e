use Rattle.std.proofs.Common.{arith}
use Rattle.std.proofs.lemmas.List.{with_items_is}
use Rattle.tracing_core_fields.specs.Metadata.{plain_metadata}
use Rattle.tracing_core.proofs.CachePreservation.{asked_keeps}
use Rattle.tracing_core.proofs.hub.Hub.enabled.Goals as goal

pub returns-clause-keeps : goal.returns-clause-keeps
returns-clause-keeps g c =
    asked_keeps g.S.Subscriber g.C.Callsite (plain_metadata c.args.metadata.now) c.args.at c.ask_one.result c.serial_of.ensures c.self.view_is
    c.deref_mut.ensures.value
    (with_items_is c.self.inside.subscribers c.ask_one.new.subscribers (omega arith)) c.ask_one.ensures
