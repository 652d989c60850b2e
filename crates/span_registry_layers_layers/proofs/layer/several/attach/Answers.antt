use Rattle.std.proofs.Common.{arith, refl}
use Rattle.span_registry_layers_layers.specs.Several.{AttachesOne}
use Rattle.span_registry_layers_layers.proofs.AttachedLayers.{Numbered, adds_more, adds_none, numbered_all}
use Rattle.span_registry_layers_layers.proofs.EachElement.{turn_next, turns_end}
use Rattle.span_registry_layers_layers.proofs.layer.several.attach.Goals as goal

pub loop-layer-init : goal.loop-layer-init
loop-layer-init g c = record { done = refl; left = refl; more = adds_none c.args.registry.now; numbers = refl }

pub loop-layer-preserved : goal.loop-layer-preserved
loop-layer-preserved g c =
    let turn = turn_next (AttachesOne g.L.Layer) c.args.registry.now c.loop-layer.registry c.on_layer.new.registry c.args.layers.now
    c.loop-layer.layers c.loop-layer.layer-index c.layer-item.result c.on_layer.new.self
    (omega arith) (omega arith) c.loop-layer.invariant.done c.loop-layer.invariant.left
    (c.on_layer.ensures.filters, c.on_layer.ensures.notified) in
    let numbers = turn_next (Numbered g.L.Layer) c.args.registry.now c.loop-layer.registry c.on_layer.new.registry c.args.layers.now
    c.loop-layer.layers c.loop-layer.layer-index c.layer-item.result c.on_layer.new.self
    (omega arith) (omega arith) c.loop-layer.invariant.numbers c.loop-layer.invariant.left c.on_layer.ensures.numbers in
    record {
      done = turn.0;
      left = turn.1;
      more = adds_more c.args.registry.now c.loop-layer.registry c.on_layer.new.registry
          c.loop-layer.invariant.more c.on_layer.ensures.filters;
      numbers = numbers.0;
    }

pub returns-clause-each : goal.returns-clause-each
returns-clause-each g c = (
  c.loop-layer.registry,
  turns_end (AttachesOne g.L.Layer) c.args.registry.now c.loop-layer.registry
      c.args.layers.now c.loop-layer.layers c.loop-layer.layer-index (omega arith) (omega arith) c.loop-layer.invariant.done,
)

pub returns-clause-numbers : goal.returns-clause-numbers
returns-clause-numbers g c =
    numbered_all g.L.Layer c.args.registry.now c.args.layers.now c.loop-layer.registry c.loop-layer.layers
    (turns_end (Numbered g.L.Layer) c.args.registry.now c.loop-layer.registry c.args.layers.now c.loop-layer.layers
    c.loop-layer.layer-index (omega arith) (omega arith) c.loop-layer.invariant.numbers)
