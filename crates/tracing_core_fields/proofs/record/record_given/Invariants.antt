use Rattle.std.proofs.Common.{drop}
use Rattle.tracing_core_fields.proofs.VisitLemmas.{Leads}
use Rattle.tracing_core_fields.specs.FieldSet.{field_names, set_callsite}
use Rattle.tracing_core_fields.specs.Values.{given_entries}
use Rattle.tracing_core_fields.proofs.record.record_given.Given as goal

abbrev pub invariant-loop-entry : goal.invariant-loop-entry
invariant-loop-entry g l =
    Leads g.V.VisitKinds.takes (set_callsite l.fields) (field_names l.fields) (given_entries l.fields (drop l.entry-index l.entries))
    l.visitor (given_entries l.fields l.entries) l.initial.visitor
