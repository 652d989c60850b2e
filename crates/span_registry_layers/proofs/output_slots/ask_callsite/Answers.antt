use Rattle.std.proofs.Common.{arith, get_or, refl, subst, ◌∙◌}
use Rattle.tracing_core_fields.specs.Metadata.{plain_metadata}
use Rattle.span_registry_layers_store.specs.Registries.{RegistryValue}
use Rattle.span_registry_layers.specs.OutputSlots.{AsksCallsite}
use Rattle.span_registry_layers.proofs.EachElement.{becomes_next, becomes_end}
use Rattle.span_registry_layers.proofs.output_slots.ask_callsite.Goals as goal

pub loop-row-init : goal.loop-row-init
loop-row-init g c = record { same = refl; done = tt; left = refl }

pub loop-row-preserved : goal.loop-row-preserved
loop-row-preserved g c =
    let m = plain_metadata c.args.metadata.now in
    let asked = subst (λ (x : RegistryValue). AsksCallsite g.F.Filter.answers m c.args.at x
    (get_or c.loop-row.rows c.loop-row.row-index c.row-item.result) c.ask_callsite.new.self) c.loop-row.invariant.same
    c.ask_callsite.ensures.asked in
    let turn = becomes_next (AsksCallsite g.F.Filter.answers m c.args.at c.args.registry.now) c.args.rows.now c.loop-row.rows
    c.loop-row.row-index c.row-item.result c.ask_callsite.new.self
    (omega arith) (omega arith) c.loop-row.invariant.done c.loop-row.invariant.left asked in
    record { same = c.ask_callsite.ensures.same ∙ c.loop-row.invariant.same; done = turn.0; left = turn.1 }

pub returns-clause-asked : goal.returns-clause-asked
returns-clause-asked g c =
    becomes_end (AsksCallsite g.F.Filter.answers (plain_metadata c.args.metadata.now) c.args.at c.args.registry.now) c.args.rows.now
    c.loop-row.rows c.loop-row.row-index
    (omega arith) (omega arith) c.loop-row.invariant.done

pub returns-clause-same : goal.returns-clause-same
returns-clause-same g c = c.loop-row.invariant.same
