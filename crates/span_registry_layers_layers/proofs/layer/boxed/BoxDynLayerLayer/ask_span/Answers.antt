use Rattle.std.proofs.Common.{List, Bool, length, subst}
use Rattle.tracing_core_fields.specs.Metadata.{plain_metadata}
use Rattle.span_registry_layers_layers.specs.FilterViews.{view}
use Rattle.span_registry_layers_layers.specs.FilterNumbers.{AreNumbers, SameBut, SameOf}
use Rattle.span_registry_layers_layers.proofs.layer.boxed.BoxDynLayerLayer.ask_span.Goals as goal

pub returns-clause-others : goal.returns-clause-others
returns-clause-others g c = subst (λ p. SameBut ((g.dyn-1.0.entry p.0).1.numbers p.1) c.args.verdicts.passed c.ask_span.result.0.passed)
    c.deref_box-1.ensures.1 c.ask_span.ensures.1.1.1.0

pub returns-clause-kept : goal.returns-clause-kept
returns-clause-kept g c =
    subst
    (λ p. (later : List Bool) → AreNumbers (length c.args.verdicts.passed) ((g.dyn-1.0.entry p.0).1.numbers p.1) →
    SameOf ((g.dyn-1.0.entry p.0).1.numbers p.1) c.ask_span.result.0.passed later →
    (g.dyn-1.0.entry p.0).1.kept p.1 (plain_metadata c.args.metadata.now) (view c.args.context.now) c.args.passes later c.ask_span.result.1)
    c.deref_box-1.ensures.1 c.ask_span.ensures.1.1.1.1
