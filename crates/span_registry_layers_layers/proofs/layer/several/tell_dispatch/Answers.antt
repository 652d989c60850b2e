use Rattle.std.proofs.Common.{arith, refl}
use Rattle.span_registry_layers_layers.specs.Notices.{Dispatched}
use Rattle.span_registry_layers_layers.proofs.EachElement.{turn_next, turns_end}
use Rattle.span_registry_layers_layers.proofs.layer.several.tell_dispatch.Goals as goal

pub loop-layer-init : goal.loop-layer-init
loop-layer-init g c = record { done = refl; left = refl }

pub loop-layer-preserved : goal.loop-layer-preserved
loop-layer-preserved g c =
    let turn = turn_next {S = Unit {0}} (λ _ x _ y. g.L.Layer.told x (Dispatched c.args.dispatch.now) y) tt tt tt c.args.layers.now
    c.loop-layer.layers c.loop-layer.layer-index c.layer-item.result c.on_register_dispatch.new.self
    (omega arith) (omega arith) c.loop-layer.invariant.done c.loop-layer.invariant.left c.on_register_dispatch.ensures in
    record { done = turn.0; left = turn.1 }

pub returns : goal.returns
returns g c = turns_end {S = Unit {0}} (λ _ x _ y. g.L.Layer.told x (Dispatched c.args.dispatch.now) y) tt tt c.args.layers.now
    c.loop-layer.layers c.loop-layer.layer-index (omega arith) (omega arith) c.loop-layer.invariant.done
