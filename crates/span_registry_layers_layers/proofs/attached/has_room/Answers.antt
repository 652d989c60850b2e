use Rattle.std.proofs.Common.{ℕ, ap, ◌∙◌}
use Rattle.span_registry_layers_layers.specs.FilterNumbers.{room_after}
use Rattle.span_registry_layers_layers.proofs.FilterNumbers.{room_tells}
use Rattle.span_registry_layers_layers.proofs.attached.has_room.Goals as goal

pub returns : goal.returns
returns g c =
    c.is_some.ensures ∙ room_tells c.args.registry.now.filters (g.L.Layer.filters c.args.layer.now) c.room_left.result
    c.filter_room.ensures.within
    (c.room_left.ensures ∙ ap (λ (n : ℕ). room_after n (g.L.Layer.filters c.args.layer.now)) c.filter_room.ensures.room)
