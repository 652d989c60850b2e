use Rattle.std.proofs.Common.{map, ap, ◌∙◌}
use Rattle.tracing_core_fields.specs.FieldSet.{field_names, set_callsite}
use Rattle.tracing_core_fields.specs.Iter.{fields_left}
use Rattle.tracing_core_fields.specs.PlainField.{PlainField}
use Rattle.tracing_core_fields.proofs.FieldLemmas.{names_named}
use Rattle.tracing_core_fields.proofs.owned_metadata.owned_names.Goals as goal

pub loop-field-init : goal.loop-field-init
loop-field-init c =
    let left = ap fields_left c.into_iter-field-iterator.ensures.into_iter_gives ∙ c.iter-field-items.ensures in
    rw (c.new-names.ensures.items) (ap (map (λ (f : PlainField). f.name)) left ∙
    names_named (set_callsite c.args.fields.now) 0 (field_names c.args.fields.now))
