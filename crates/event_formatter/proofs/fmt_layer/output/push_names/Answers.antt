use Rattle.std.proofs.Common.{◌++◌, ◌∷◌, ℕ, List, ap, sym, ◌∙◌, string_bytes}
use Rattle.tracing_core_fields.specs.Field.{plain_field}
use Rattle.tracing_core_fields.specs.FieldSet.{field_names, set_callsite}
use Rattle.tracing_core_fields.specs.Iter.{fields_left}
use Rattle.tracing_core_fields.specs.PlainField.{PlainField}
use Rattle.event_formatter.proofs.fmt_layer.Names.{begun}
use Rattle.event_formatter.proofs.fmt_layer.output.push_names.Goals as goal

pub loop-field-init : goal.loop-field-init
loop-field-init c =
    let fields = c.args.fields.now in
    let first = plain_field c.in-Some.first in
    let old = string_bytes c.args.out.now in
    begun (set_callsite fields) (field_names fields) first (fields_left c.into_iter-field-iterator.result) old
    (string_bytes c.push_str.new.self)
    (ap (λ (later : List PlainField). first ∷ later) (ap fields_left c.into_iter-field-iterator.ensures.into_iter_gives)
    ∙ sym c.in-Some.ensures.steps ∙ c.iter-rest.ensures)
    (c.in_ok-push_str.ensures.bytes ∙ ap (λ (name : List ℕ). old ++ name) c.name.ensures)
