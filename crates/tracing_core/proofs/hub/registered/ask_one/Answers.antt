use Rattle.std.proofs.Common.{refl}
use Rattle.tracing_core_fields.specs.Metadata.{plain_metadata}
use Rattle.tracing_core.proofs.AskedSubscriber.{nobody, somebody}
use Rattle.tracing_core.proofs.hub.registered.ask_one.Goals as goal

pub returns-in_default-index_of : goal.returns-in_default-index_of
returns-in_default-index_of g c =
    nobody g.S.Subscriber (plain_metadata c.args.metadata.now) c.args.at c.args.serial c.in-Some.serial c.args.subscribers.now c.in-Some.is
    c.in_default-index_of.ensures

pub returns : goal.returns
returns g c =
    somebody g.S.Subscriber (plain_metadata c.args.metadata.now) c.args.at c.args.serial c.in-Some.serial c.args.subscribers.now
    c.in-Some.is
    c.in-Some-index_of.index c.index-subscribers-index.result _ _ c.in-Some-index_of.ensures c.enabled.result c.registered.view_is
    c.enabled.ensures.answer c.enabled.ensures.state refl
