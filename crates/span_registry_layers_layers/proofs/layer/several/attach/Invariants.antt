use Rattle.std.proofs.Common.{◌≡◌, take, drop}
use Rattle.span_registry_layers_layers.specs.Notices.{AddsFilters}
use Rattle.span_registry_layers_layers.specs.Several.{AttachesOne, EachInTurn}
use Rattle.span_registry_layers_layers.proofs.AttachedLayers.{Numbered}
use Rattle.span_registry_layers_layers.proofs.layer.several.attach.Given as goal

abbrev pub invariant-loop-layer : goal.invariant-loop-layer
invariant-loop-layer g l =
    record {
      done : EachInTurn (AttachesOne g.L.Layer) l.fn.registry (take l.layer-index l.fn.layers) l.registry (take l.layer-index l.layers);
      left : drop l.layer-index l.layers ≡ drop l.layer-index l.fn.layers;
      more : AddsFilters l.fn.registry l.registry;
      numbers : EachInTurn (Numbered g.L.Layer) l.fn.registry (take l.layer-index l.fn.layers) l.registry (take l.layer-index l.layers);
    }
