-- What an iterator over the fields of a set has left.
use Rattle.std.specs.Prelude.{List, drop}
use Rattle.tracing_core_fields.specs.FieldSet.{plain_fields}
use Rattle.tracing_core_fields.specs.PlainField.{PlainField}
use Rattle.tracing_core_fields.specs.declared.field.Iter.{Iter}

-- the fields that are left, in order
abbrev pub fields_left : Iter → List PlainField
fields_left it = drop it.next_index (plain_fields it.fields)
