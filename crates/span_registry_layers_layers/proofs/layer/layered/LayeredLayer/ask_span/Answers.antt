use Rattle.std.proofs.Common.{ℕ, length, refl, subst, sym}
use Rattle.tracing_core_fields.specs.Metadata.{plain_metadata}
use Rattle.span_registry_layers_layers.specs.FilterViews.{View}
use Rattle.span_registry_layers_layers.specs.FilterNumbers.{AreNumbers}
use Rattle.span_registry_layers_layers.proofs.FilterNumbers.{numbers_first, numbers_second, same_first, same_second}
use Rattle.span_registry_layers_layers.proofs.SharedLoans.{same_view}
use Rattle.span_registry_layers_layers.proofs.layer.layered.LayeredLayer.ask_span.Goals as goal

pub returns-clause-kept : goal.returns-clause-kept
returns-clause-kept g c =
    λ later numbers same. (
      c.ask_span-verdicts.result.1,
      c.ask_span-verdicts-2.result.1,
      c.ask_span-verdicts.ensures.kept later (numbers_first (length c.args.verdicts.passed) (g.L.Layer.numbers c.args.self.now.layer)
          (g.I.Layer.numbers c.args.self.now.inner) numbers)
          (same_first (length c.args.verdicts.passed) (g.L.Layer.numbers c.args.self.now.layer) (g.I.Layer.numbers c.args.self.now.inner)
          c.ask_span-verdicts.result.0.passed c.ask_span-verdicts-2.result.0.passed later numbers c.ask_span-verdicts-2.ensures.others same),
      subst (λ (v : View). g.I.Layer.kept c.args.self.now.inner (plain_metadata c.args.metadata.now) v c.args.passes later
          c.ask_span-verdicts-2.result.1) (same_view c.args.context.now c.ask_span-verdicts.new.context c.ask_span-verdicts.ensures.lent
          c.ask_span-verdicts.ensures.same) (c.ask_span-verdicts-2.ensures.kept later
          (subst (λ (n : ℕ). AreNumbers n (g.I.Layer.numbers c.args.self.now.inner)) (sym c.ask_span-verdicts.ensures.room)
          (numbers_second (length c.args.verdicts.passed) (g.L.Layer.numbers c.args.self.now.layer)
          (g.I.Layer.numbers c.args.self.now.inner) numbers))
          (same_second (g.L.Layer.numbers c.args.self.now.layer) (g.I.Layer.numbers c.args.self.now.inner) c.ask_span-verdicts-2.result.0.passed
          later same)),
      refl,
    )
