use Rattle.span_registry_layers_layers.specs.Notices.{Dispatched}
use Rattle.span_registry_layers_layers.proofs.Boxes.{told_in_box}
use Rattle.span_registry_layers_layers.proofs.layer.boxed.BoxDynLayerLayer.on_register_dispatch.Goals as goal

pub returns : goal.returns
returns g c =
    told_in_box (λ t w. record { ptr = c.args.self.now.ptr; vtable = t; alloc = c.args.self.now.alloc; value = w })
    (λ t v w. (g.dyn-1.0.entry t).1.told v (Dispatched c.args.dispatch.now) w)
    c.deref_box_mut-1.result.now (c.args.self.now.vtable, c.args.self.now.value) c.deref_box_mut-1.ensures.value.1
    c.on_register_dispatch.new.self c.on_register_dispatch.ensures
