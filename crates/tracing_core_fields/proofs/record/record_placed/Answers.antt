use Rattle.std.proofs.Common.{◌+◌, arith, drop, filter_map}
use Rattle.std.specs.List.{enumerate_from}
use Rattle.tracing_core_fields.proofs.VisitLemmas.{placed_more, placed_none, leads_on, leads_out, leads_to_end, same_refusal}
use Rattle.tracing_core_fields.specs.FieldSet.{field_names, set_callsite}
use Rattle.tracing_core_fields.specs.Values.{placed_entry, placed_entries}
use Rattle.tracing_core_fields.proofs.record.record_placed.Goals as goal

pub returns-in_err-record_at : goal.returns-in_err-record_at
returns-in_err-record_at g c =
    let values = c.args.values.now in
    let i = c.loop-index.index in
    let same = same_refusal c.from_residual.result c.in_err-record_at.field-0.0 c.from_residual.ensures.1 in
    leads_out g.V.VisitKinds.takes (set_callsite c.args.fields.now) (field_names c.args.fields.now)
    (filter_map placed_entry (enumerate_from i (drop i values)))
    (filter_map placed_entry (enumerate_from (i + 1) (drop (i + 1) values))) (placed_entries values) c.loop-index.visitor
    c.record_at.new.visitor c.args.visitor.now (placed_entry (i, c.index-values-index.result)) c.in_err-record_at.field-0.0
    c.from_residual.result (placed_more values i c.index-values-index.result c.index-values-index.is (omega arith))
    c.in_err-record_at.ensures same c.loop-index.invariant

pub loop-index-preserved : goal.loop-index-preserved
loop-index-preserved g c =
    let values = c.args.values.now in
    let i = c.loop-index.index in
    leads_on g.V.VisitKinds.takes (set_callsite c.args.fields.now) (field_names c.args.fields.now)
    (filter_map placed_entry (enumerate_from i (drop i values)))
    (filter_map placed_entry (enumerate_from (i + 1) (drop (i + 1) values))) (placed_entries values) c.loop-index.visitor
    c.record_at.new.visitor c.args.visitor.now (placed_entry (i, c.index-values-index.result))
    (placed_more values i c.index-values-index.result c.index-values-index.is (omega arith)) c.in_ok-record_at.ensures
    c.loop-index.invariant

pub returns : goal.returns
returns g c =
    let values = c.args.values.now in
    let i = c.loop-index.index in
    leads_to_end g.V.VisitKinds.takes (set_callsite c.args.fields.now) (field_names c.args.fields.now)
    (filter_map placed_entry (enumerate_from i (drop i values))) (placed_entries values) c.loop-index.visitor c.args.visitor.now
    (placed_none values i (omega arith)) c.loop-index.invariant
