use Rattle.std.proofs.Common.{subst}
use Rattle.tracing_core_fields.specs.requests.PlainRequests.{plain_event}
use Rattle.span_registry_layers_layers.specs.FilterViews.{view}
use Rattle.span_registry_layers_layers.proofs.filter.boxed_send.BoxDynFilterSendFilter.event_enabled.Goals as goal

pub returns : goal.returns
returns g c = subst (λ p. (g.dyn-1.0.entry p.0).1.event_answers p.1 (plain_event c.args.event.now) (view c.args.context.now)
    c.event_enabled.result) c.deref_box-1.ensures.1 c.event_enabled.ensures
