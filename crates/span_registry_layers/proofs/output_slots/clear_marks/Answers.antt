use Rattle.std.proofs.Common.{◌≡◌, length, sym, arith, ◌∙◌, false}
use Rattle.span_registry_layers.specs.OutputSlots.{marked}
use Rattle.span_registry_layers.proofs.EachElement.{so_far-zero, so_far-all, so_far-next}
use Rattle.span_registry_layers.proofs.output_slots.clear_marks.Goals as goal

pub loop-row-init : goal.loop-row-init
loop-row-init g c = sym (so_far-zero _ _)

pub loop-row-preserved : goal.loop-row-preserved
loop-row-preserved g c =
    so_far-next (marked false) c.args.rows.now c.loop-row.rows c.loop-row.row-index c.row-item.result _
    (omega arith) c.loop-row.invariant c.clear.ensures

pub returns : goal.returns
returns g c =
    let e : c.loop-row.row-index ≡ length c.args.rows.now = omega arith in
    c.loop-row.invariant ∙ rw e (so_far-all _ _)
