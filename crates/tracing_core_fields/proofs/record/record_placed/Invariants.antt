use Rattle.std.proofs.Common.{drop, filter_map}
use Rattle.std.specs.List.{enumerate_from}
use Rattle.tracing_core_fields.proofs.VisitLemmas.{Leads}
use Rattle.tracing_core_fields.specs.FieldSet.{field_names, set_callsite}
use Rattle.tracing_core_fields.specs.Values.{placed_entry, placed_entries}
use Rattle.tracing_core_fields.proofs.record.record_placed.Given as goal

abbrev pub invariant-loop-index : goal.invariant-loop-index
invariant-loop-index g l =
    Leads g.V.VisitKinds.takes (set_callsite l.fields) (field_names l.fields)
    (filter_map placed_entry (enumerate_from l.index (drop l.index l.values))) l.visitor (placed_entries l.values) l.initial.visitor
