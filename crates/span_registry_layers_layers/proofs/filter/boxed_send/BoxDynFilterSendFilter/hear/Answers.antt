use Rattle.std.proofs.Common.{ap, ◌∙◌}
use Rattle.span_registry_layers_layers.specs.FilterViews.{view}
use Rattle.span_registry_layers_layers.specs.SpanCalls.{hook}
use Rattle.span_registry_layers_layers.proofs.filter.boxed_send.BoxDynFilterSendFilter.hear.Goals as goal

pub returns : goal.returns
returns g c =
    ap (λ w. record { ptr = c.args.self.now.ptr; vtable = c.deref_box_mut-1.result.now.0; alloc = c.args.self.now.alloc; value = w })
    c.hear.ensures
    ∙ ap (λ p. record {
      ptr = c.args.self.now.ptr;
      vtable = p.0;
      alloc = c.args.self.now.alloc;
      value =
          (g.dyn-1.0.entry p.0).1.after p.1 (hook c.args.call.now (view c.args.context.now));
    }) c.deref_box_mut-1.ensures.value.1
