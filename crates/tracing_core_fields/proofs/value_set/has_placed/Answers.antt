use Rattle.std.proofs.Common.{sym, ◌∙◌, ap, arith, option_and_then, length, Option, refl}
use Rattle.std.specs.Option.{is_some}
use Rattle.std.proofs.lemmas.Option.{slice_get_read, slice_get_past}
use Rattle.tracing_core_fields.specs.PlainValue.{present_value}
use Rattle.tracing_core_fields.proofs.EntryLemmas.{has_entry-at}
use Rattle.tracing_core_fields.specs.declared.value_set.AnyValue.{AnyValue}
use Rattle.tracing_core_fields.proofs.value_set.has_placed.Goals as goal

pub returns-in-Some : goal.returns-in-Some
returns-in-Some c =
    let read = c.in-Some.ensures.lookup in
    let values = c.args.values.now in
    let found = slice_get_read values (length values) c.args.index c.in-Some.value.now refl read.3.0 read.1 in
    c.is_present.ensures
    ∙ sym (has_entry-at 0 c.args.index c.args.index values (omega arith) ∙
    ap (λ (value : Option (Option AnyValue)). is_some (option_and_then present_value value)) found)

pub returns-in-None : goal.returns-in-None
returns-in-None c =
    let read = c.in-None.ensures.lookup in
    let values = c.args.values.now in
    let none = slice_get_past values c.args.index read.3 in
    sym (has_entry-at 0 c.args.index c.args.index values (omega arith) ∙
    ap (λ (value : Option (Option AnyValue)). is_some (option_and_then present_value value)) none)
