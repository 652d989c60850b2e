use Rattle.span_registry_layers_layers.proofs.AttachedLayers.{adds_more, registers}
use Rattle.span_registry_layers_layers.proofs.layer.filtered.FilteredLayer.on_layer.Goals as goal

pub returns-clause-filters : goal.returns-clause-filters
returns-clause-filters g c =
    adds_more c.args.registry.now c.register_filter.new.self c.on_layer.new.registry
    (registers c.args.registry.now c.register_filter.new.self c.register_filter.result c.register_filter.ensures)
    c.on_layer.ensures.filters
