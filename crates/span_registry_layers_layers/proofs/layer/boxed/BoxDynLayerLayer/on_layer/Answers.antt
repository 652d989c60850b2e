use Rattle.std.proofs.Common.{◌≡◌, ◌≤◌, ◌+◌, ℕ, ap, subst}
use Rattle.span_registry_layers_layers.specs.FilterNumbers.{more_filters, numbers_from}
use Rattle.span_registry_layers_layers.specs.Notices.{Attached}
use Rattle.span_registry_layers_layers.proofs.Boxes.{told_in_box}
use Rattle.span_registry_layers_layers.proofs.layer.boxed.BoxDynLayerLayer.on_layer.Goals as goal

pub returns-clause-notified : goal.returns-clause-notified
returns-clause-notified g c =
    told_in_box (λ t w. record { ptr = c.args.self.now.ptr; vtable = t; alloc = c.args.self.now.alloc; value = w })
    (λ t v w. (g.dyn-1.0.entry t).1.told v (Attached c.args.registry.now) w)
    c.deref_box_mut-1.result.now (c.args.self.now.vtable, c.args.self.now.value) c.deref_box_mut-1.ensures.value.1 c.on_layer.new.self
    c.on_layer.ensures.0

pub returns-clause-numbers : goal.returns-clause-numbers
returns-clause-numbers g c =
    let same = ap (λ p. (g.dyn-1.0.entry p.0).1.filters p.1) c.deref_box_mut-1.ensures.value.1 in
    subst
    (λ (n : ℕ). c.args.registry.now.filters + n ≤ 64 → (c.on_layer.new.registry ≡ more_filters n c.args.registry.now) ×
    ((g.dyn-1.0.entry c.deref_box_mut-1.result.now.0).1.numbers c.on_layer.new.self ≡ numbers_from c.args.registry.now.filters n))
    same c.on_layer.ensures.1.1
