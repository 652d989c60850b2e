use Rattle.std.proofs.Common.{arith}
use Rattle.tracing_core_fields.proofs.VisitLemmas.{item_on, item_out, items_end, same_refusal}
use Rattle.tracing_core_fields.specs.FieldSet.{field_names, set_callsite}
use Rattle.tracing_core_fields.specs.Values.{given_entry}
use Rattle.tracing_core_fields.proofs.record.record_given.Goals as goal

pub returns-in_err-record_entry : goal.returns-in_err-record_entry
returns-in_err-record_entry g c =
    let same = same_refusal c.from_residual.result c.in_err-record_entry.field-0.0 c.from_residual.ensures.1 in
    item_out g.V.VisitKinds.takes (set_callsite c.args.fields.now) (field_names c.args.fields.now) (given_entry c.args.fields.now)
    c.args.entries.now c.loop-entry.entry-index c.entry-item.result (omega arith) c.entry-item.is c.loop-entry.visitor
    c.args.visitor.now c.record_entry.new.visitor _ _ c.in_err-record_entry.ensures same c.loop-entry.invariant

pub loop-entry-preserved : goal.loop-entry-preserved
loop-entry-preserved g c =
    item_on g.V.VisitKinds.takes (set_callsite c.args.fields.now) (field_names c.args.fields.now) (given_entry c.args.fields.now)
    c.args.entries.now c.loop-entry.entry-index c.entry-item.result (omega arith) c.entry-item.is c.loop-entry.visitor
    c.args.visitor.now c.record_entry.new.visitor c.in_ok-record_entry.ensures c.loop-entry.invariant

pub returns : goal.returns
returns g c =
    items_end g.V.VisitKinds.takes (set_callsite c.args.fields.now) (field_names c.args.fields.now) (given_entry c.args.fields.now)
    c.args.entries.now c.loop-entry.entry-index c.loop-entry.visitor c.args.visitor.now (omega arith) c.loop-entry.invariant
