use Rattle.std.proofs.Common.{arith, refl, ◌∙◌}
use Rattle.span_registry_layers_layers.specs.FilterViews.{left, view}
use Rattle.span_registry_layers_layers.specs.LayerNotices.{notice}
use Rattle.span_registry_layers_layers.specs.Several.{TellsOne}
use Rattle.span_registry_layers_layers.proofs.EachElement.{turn_next, turns_end}
use Rattle.span_registry_layers_layers.proofs.SharedLoans.{told_on}
use Rattle.span_registry_layers_layers.proofs.layer.several.tell_each.Goals as goal

pub loop-layer-init : goal.loop-layer-init
loop-layer-init g c = record { lent = (refl, refl, refl); done = refl; rest = refl }

pub loop-layer-preserved : goal.loop-layer-preserved
loop-layer-preserved g c =
    let lent = c.loop-layer.invariant.lent in
    let own = c.hear.ensures.lent in
    let turn = turn_next (TellsOne g.L.Layer (notice c.args.told.now) (view c.args.context.now)) (left c.args.context.now)
    (left c.loop-layer.context) (left c.hear.new.context) c.args.layers.now c.loop-layer.layers c.loop-layer.layer-index
    c.layer-item.result c.hear.new.self
    (omega arith) (omega arith) c.loop-layer.invariant.done c.loop-layer.invariant.rest
    (told_on g.L.Layer (notice c.args.told.now) c.args.context.now c.loop-layer.context _ _ _ lent c.hear.ensures.notified) in
    record { lent = (own.0 ∙ lent.0, own.1 ∙ lent.1, own.2 ∙ lent.2); done = turn.0; rest = turn.1 }

pub returns-clause-notified : goal.returns-clause-notified
returns-clause-notified g c =
    turns_end (TellsOne g.L.Layer (notice c.args.told.now) (view c.args.context.now)) (left c.args.context.now) (left c.loop-layer.context)
    c.args.layers.now c.loop-layer.layers c.loop-layer.layer-index (omega arith) (omega arith) c.loop-layer.invariant.done
