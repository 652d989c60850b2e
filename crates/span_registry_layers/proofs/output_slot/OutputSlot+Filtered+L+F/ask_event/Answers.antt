use Rattle.std.proofs.Common.{refl, subst, ◌∙◌}
use Rattle.tracing_core_fields.specs.requests.PlainRequests.{plain_event}
use Rattle.span_registry_layers_layers.specs.Combined.{Then}
use Rattle.span_registry_layers_store.specs.Registries.{RegistryValue}
use Rattle.span_registry_layers.specs.OutputSlots.{view_of}
use Rattle.span_registry_layers.proofs.output_slot.OutputSlot+Filtered+L+F.ask_event.Goals as goal

pub returns-clause-asked : goal.returns-clause-asked
returns-clause-asked g c =
    let row = c.args.self.now in
    let e = plain_event c.args.event.now in
    let x = c.args.registry.now in (
      subst (λ m. g.F.Filter.answers row.output.filter m (view_of c.args.at x row) c.passes-passes.result) c.metadata.ensures.plain
          c.passes-passes.ensures.answer,
      subst (λ (z : RegistryValue). Then (g.F.Filter.event_answers row.output.filter e (view_of c.args.at z row)) c.passes-passes.result
          c.hears-hears.result) c.passes-passes.ensures.same c.hears-hears.ensures.answer,
      refl,
    )

pub returns-clause-same : goal.returns-clause-same
returns-clause-same g c = c.hears-hears.ensures.same ∙ c.passes-passes.ensures.same
