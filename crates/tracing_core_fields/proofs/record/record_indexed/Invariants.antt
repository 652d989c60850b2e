use Rattle.std.proofs.Common.{drop, length}
use Rattle.tracing_core_fields.proofs.VisitLemmas.{Leads}
use Rattle.tracing_core_fields.specs.FieldSet.{field_names, set_callsite}
use Rattle.tracing_core_fields.specs.IndexedEntries.{entries_below}
use Rattle.tracing_core_fields.proofs.record.record_indexed.Given as goal

abbrev pub invariant-loop-given : goal.invariant-loop-given
invariant-loop-given g l =
    Leads g.V.VisitKinds.takes (set_callsite l.fields) (field_names l.fields)
    (entries_below g.I.IndexedValue.place g.I.IndexedValue.meaning (length (field_names l.fields)) (drop l.given-index l.values)) l.visitor
    (entries_below g.I.IndexedValue.place g.I.IndexedValue.meaning (length (field_names l.fields)) l.values) l.initial.visitor
