use Rattle.std.proofs.Common.{subst}
use Rattle.tracing_core_fields.specs.Metadata.{plain_metadata}
use Rattle.span_registry_layers_layers.specs.FilterViews.{view}
use Rattle.span_registry_layers_layers.proofs.filter.boxed_send.BoxDynFilterSendFilter.enabled.Goals as goal

pub returns : goal.returns
returns g c = subst (λ p. (g.dyn-1.0.entry p.0).1.answers p.1 (plain_metadata c.args.metadata.now) (view c.args.context.now)
    c.enabled.result) c.deref_box-1.ensures.1 c.enabled.ensures
