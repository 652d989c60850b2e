use Rattle.std.proofs.Common.{Bool, List, length, subst, sym, true}
use Rattle.tracing_core_fields.specs.Metadata.{plain_metadata}
use Rattle.span_registry_layers_layers.specs.FilterViews.{View}
use Rattle.span_registry_layers_layers.specs.FilterNumbers.{AreNumbers}
use Rattle.span_registry_layers_layers.proofs.FilterNumbers.{numbers_within, same_self}
use Rattle.span_registry_layers_layers.proofs.attached.Layered+L+Registry.ask.Goals as goal

pub returns-clause-kept : goal.returns-clause-kept
returns-clause-kept g c =
    let numbers = g.L.Layer.numbers c.args.self.now.layer in
    λ attached. subst (λ (v : View). g.L.Layer.kept c.args.self.now.layer (plain_metadata c.args.metadata.now) v true
    c.ask_span.result.0.passed c.ask_span.result.1) c.new-context.ensures.view
    (c.ask_span.ensures.kept c.ask_span.result.0.passed
    (subst (λ (passed : List Bool). AreNumbers (length passed) numbers) (sym c.all.ensures)
    (numbers_within c.args.self.now.inner.filters 64 numbers attached.1 attached.0)) (same_self numbers c.ask_span.result.0.passed))
