use Rattle.std.proofs.Common.{arith, refl}
use Rattle.tracing_core_fields.specs.Metadata.{plain_metadata}
use Rattle.span_registry_layers.specs.InterestCache.{Renews}
use Rattle.span_registry_layers.proofs.EachElement.{becomes_next, becomes_end}
use Rattle.span_registry_layers.proofs.interest_cache.renew.Goals as goal

pub loop-site-init : goal.loop-site-init
loop-site-init c = record { done = tt; left = refl }

pub loop-site-preserved : goal.loop-site-preserved
loop-site-preserved c =
    let turn = becomes_next (Renews (plain_metadata c.args.metadata.now) c.args.interest) c.args.interest_cache.now
    c.loop-site.interest_cache c.loop-site.site-index c.site-item.result c.renew.new.self
    (omega arith) (omega arith) c.loop-site.invariant.done c.loop-site.invariant.left c.renew.ensures in
    record { done = turn.0; left = turn.1 }

pub returns : goal.returns
returns c =
    becomes_end (Renews (plain_metadata c.args.metadata.now) c.args.interest) c.args.interest_cache.now c.loop-site.interest_cache
    c.loop-site.site-index
    (omega arith) (omega arith) c.loop-site.invariant.done
