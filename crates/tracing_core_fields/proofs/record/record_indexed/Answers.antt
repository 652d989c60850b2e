use Rattle.std.proofs.Common.{arith, length}
use Rattle.tracing_core_fields.proofs.VisitLemmas.{item_on, item_out, items_end, same_refusal}
use Rattle.tracing_core_fields.specs.FieldSet.{field_names, set_callsite}
use Rattle.tracing_core_fields.specs.IndexedEntries.{indexed_entry}
use Rattle.tracing_core_fields.proofs.record.record_indexed.Goals as goal

pub returns-in_err-record_given_at : goal.returns-in_err-record_given_at
returns-in_err-record_given_at g c =
    let same = same_refusal c.from_residual.result c.in_err-record_given_at.field-0.0 c.from_residual.ensures.1 in
    item_out g.V.VisitKinds.takes (set_callsite c.args.fields.now) (field_names c.args.fields.now)
    (indexed_entry g.I.IndexedValue.place g.I.IndexedValue.meaning (length (field_names c.args.fields.now))) c.args.values.now c.loop-given.given-index c.given-item.result
    (omega arith) c.given-item.is c.loop-given.visitor c.args.visitor.now c.record_given_at.new.visitor _ _ c.in_err-record_given_at.ensures
    same c.loop-given.invariant

pub loop-given-preserved : goal.loop-given-preserved
loop-given-preserved g c =
    item_on g.V.VisitKinds.takes (set_callsite c.args.fields.now) (field_names c.args.fields.now)
    (indexed_entry g.I.IndexedValue.place g.I.IndexedValue.meaning (length (field_names c.args.fields.now))) c.args.values.now c.loop-given.given-index c.given-item.result
    (omega arith) c.given-item.is c.loop-given.visitor c.args.visitor.now c.record_given_at.new.visitor c.in_ok-record_given_at.ensures
    c.loop-given.invariant

pub returns : goal.returns
returns g c =
    items_end g.V.VisitKinds.takes (set_callsite c.args.fields.now) (field_names c.args.fields.now)
    (indexed_entry g.I.IndexedValue.place g.I.IndexedValue.meaning (length (field_names c.args.fields.now))) c.args.values.now c.loop-given.given-index c.loop-given.visitor
    c.args.visitor.now (omega arith) c.loop-given.invariant
