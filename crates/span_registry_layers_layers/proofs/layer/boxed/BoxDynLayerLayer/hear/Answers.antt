use Rattle.span_registry_layers_layers.specs.FilterViews.{left, view}
use Rattle.span_registry_layers_layers.specs.LayerNotices.{notice}
use Rattle.span_registry_layers_layers.proofs.Boxes.{told_in_box}
use Rattle.span_registry_layers_layers.proofs.layer.boxed.BoxDynLayerLayer.hear.Goals as goal

pub returns-clause-notified : goal.returns-clause-notified
returns-clause-notified g c =
    told_in_box (λ t w. record { ptr = c.args.self.now.ptr; vtable = t; alloc = c.args.self.now.alloc; value = w })
    (λ t v w. (g.dyn-1.0.entry t).1.told v (notice c.args.call.now (view c.args.context.now) (left c.hear.new.context)) w)
    c.deref_box_mut-1.result.now (c.args.self.now.vtable, c.args.self.now.value) c.deref_box_mut-1.ensures.value.1 c.hear.new.self
    c.hear.ensures.1
