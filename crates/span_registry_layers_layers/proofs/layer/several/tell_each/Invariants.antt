use Rattle.std.proofs.Common.{◌≡◌, take, drop}
use Rattle.span_registry_layers_layers.specs.FilterViews.{SameLoan, left, view}
use Rattle.span_registry_layers_layers.specs.LayerNotices.{notice}
use Rattle.span_registry_layers_layers.specs.Several.{EachInTurn, TellsOne}
use Rattle.span_registry_layers_layers.proofs.layer.several.tell_each.Given as goal

abbrev pub invariant-loop-layer : goal.invariant-loop-layer
invariant-loop-layer g l =
    record {
      lent : SameLoan l.fn.context l.context;
      done : EachInTurn (TellsOne g.L.Layer (notice l.told) (view l.fn.context)) (left l.fn.context) (take l.layer-index l.fn.layers)
          (left l.context) (take l.layer-index l.layers);
      rest : drop l.layer-index l.layers ≡ drop l.layer-index l.fn.layers;
    }
