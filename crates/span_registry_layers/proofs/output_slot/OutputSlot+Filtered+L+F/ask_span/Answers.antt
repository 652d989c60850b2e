use Rattle.std.proofs.Common.{subst}
use Rattle.tracing_core_fields.specs.Metadata.{plain_metadata}
use Rattle.span_registry_layers_store.specs.Registries.{RegistryValue}
use Rattle.span_registry_layers_layers.specs.FilterViews.{view}
use Rattle.span_registry_layers.specs.CommonAnswers.{AsksLayer}
use Rattle.span_registry_layers.specs.OutputSlots.{view_of}
use Rattle.span_registry_layers.proofs.output_slot.OutputSlot+Filtered+L+F.ask_span.Goals as goal

pub returns-clause-asked : goal.returns-clause-asked
returns-clause-asked g c =
    let row = c.args.self.now in
    let m = plain_metadata c.args.metadata.now in
    let passes = c.passes-passes.result in
    let said = c.ask_span-said.result in
    let asked : AsksLayer g.F.Filter g.L.Layer m (view c.new-context.result) passes c.inner.result.now c.with-own.result.passed
    said.0.passed =
    (c.ask_span-said.ensures.room, c.ask_span-said.ensures.others, (said.1, c.ask_span-said.ensures.kept)) in
    let of_layer = subst (λ l. AsksLayer g.F.Filter g.L.Layer m (view c.new-context.result) passes l c.with-own.result.passed said.0.passed)
    c.inner.ensures asked in
    let in_view = subst (λ v. AsksLayer g.F.Filter g.L.Layer m v passes row.output.layer c.with-own.result.passed said.0.passed)
    c.new-context.ensures.view of_layer in
    let here = subst (λ (x : RegistryValue). AsksLayer g.F.Filter g.L.Layer m (view_of c.args.at x row) passes row.output.layer
    c.with-own.result.passed said.0.passed) c.passes-passes.ensures.same in_view in (
      c.passes-passes.ensures.answer,
      subst (λ before. AsksLayer g.F.Filter g.L.Layer m (view_of c.args.at c.args.registry.now row) passes row.output.layer before
          said.0.passed) c.with-own.ensures here,
    )
