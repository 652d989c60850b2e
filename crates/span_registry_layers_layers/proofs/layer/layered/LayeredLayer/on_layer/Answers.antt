use Rattle.span_registry_layers_layers.proofs.AttachedLayers.{adds_more, numbered_both}
use Rattle.span_registry_layers_layers.proofs.layer.layered.LayeredLayer.on_layer.Goals as goal

pub returns-clause-filters : goal.returns-clause-filters
returns-clause-filters g c = adds_more c.args.registry.now c.on_layer.new.registry c.on_layer-2.new.registry c.on_layer.ensures.filters
    c.on_layer-2.ensures.filters

pub returns-clause-numbers : goal.returns-clause-numbers
returns-clause-numbers g c =
    λ h. numbered_both g.L.Layer g.I.Layer c.args.self.now.layer c.on_layer.new.self c.args.self.now.inner c.on_layer-2.new.self
    c.args.registry.now c.on_layer.new.registry c.on_layer-2.new.registry c.on_layer.ensures.numbers c.on_layer-2.ensures.numbers h
