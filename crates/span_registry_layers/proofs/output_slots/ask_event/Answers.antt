use Rattle.std.proofs.Common.{arith, get_or, refl, subst, ◌∙◌}
use Rattle.tracing_core_fields.specs.requests.PlainRequests.{plain_event}
use Rattle.span_registry_layers_store.specs.Registries.{RegistryValue}
use Rattle.span_registry_layers.specs.OutputSlots.{AsksEvent}
use Rattle.span_registry_layers.proofs.EachElement.{becomes_next, becomes_end}
use Rattle.span_registry_layers.proofs.output_slots.ask_event.Goals as goal

pub loop-row-init : goal.loop-row-init
loop-row-init g c = record { same = refl; done = tt; left = refl }

pub loop-row-preserved : goal.loop-row-preserved
loop-row-preserved g c =
    let e = plain_event c.args.event.now in
    let asked = subst (λ (x : RegistryValue). AsksEvent g.F.Filter e c.args.at x
    (get_or c.loop-row.rows c.loop-row.row-index c.row-item.result) c.ask_event-in-loop-row.new.self) c.loop-row.invariant.same
    c.ask_event-in-loop-row.ensures.asked in
    let turn = becomes_next (AsksEvent g.F.Filter e c.args.at c.args.registry.now) c.args.rows.now c.loop-row.rows c.loop-row.row-index
    c.row-item.result c.ask_event-in-loop-row.new.self
    (omega arith) (omega arith) c.loop-row.invariant.done c.loop-row.invariant.left asked in
    record { same = c.ask_event-in-loop-row.ensures.same ∙ c.loop-row.invariant.same; done = turn.0; left = turn.1 }

pub returns-clause-asked : goal.returns-clause-asked
returns-clause-asked g c =
    becomes_end (AsksEvent g.F.Filter (plain_event c.args.event.now) c.args.at c.args.registry.now) c.args.rows.now c.loop-row.rows
    c.loop-row.row-index
    (omega arith) (omega arith) c.loop-row.invariant.done

pub returns-clause-same : goal.returns-clause-same
returns-clause-same g c = c.loop-row.invariant.same
