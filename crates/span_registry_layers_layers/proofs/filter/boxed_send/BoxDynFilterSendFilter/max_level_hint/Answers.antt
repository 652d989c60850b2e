use Rattle.std.proofs.Common.{◌≡◌, subst}
use Rattle.span_registry_layers_layers.proofs.filter.boxed_send.BoxDynFilterSendFilter.max_level_hint.Goals as goal

pub returns : goal.returns
returns g c = subst (λ p. c.max_level_hint.result ≡ (g.dyn-1.0.entry p.0).1.hint p.1) c.deref_box-1.ensures.1 c.max_level_hint.ensures
