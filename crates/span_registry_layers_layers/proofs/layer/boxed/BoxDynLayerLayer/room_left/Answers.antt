use Rattle.std.proofs.Common.{◌≡◌, subst}
use Rattle.span_registry_layers_layers.specs.FilterNumbers.{room_after}
use Rattle.span_registry_layers_layers.proofs.layer.boxed.BoxDynLayerLayer.room_left.Goals as goal

pub returns : goal.returns
returns g c = subst (λ p. c.room_left.result ≡ room_after c.args.room ((g.dyn-1.0.entry p.0).1.filters p.1)) c.deref_box-1.ensures.1
    c.room_left.ensures
