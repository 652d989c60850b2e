use Rattle.std.proofs.Common.{◌≡◌, ◌++◌, string_bytes}
use Rattle.tracing_core_fields.specs.FieldSet.{field_names}
use Rattle.tracing_core_fields.specs.Iter.{fields_left}
use Rattle.event_formatter.specs.fmt_layer.Lines.{names_inside}
use Rattle.event_formatter.proofs.fmt_layer.Names.{later_fields}
use Rattle.event_formatter.proofs.fmt_layer.output.push_names.Given as goal

abbrev pub invariant-loop-field : goal.invariant-loop-field
invariant-loop-field l =
    string_bytes l.out ++ later_fields (fields_left l.field-iterator) ≡ string_bytes l.fn.out ++ names_inside (field_names l.fields)
