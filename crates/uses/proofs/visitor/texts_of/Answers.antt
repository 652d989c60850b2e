use Rattle.std.proofs.Common.{ℕ, List, ◌++◌, ap, map, string_bytes, ◌∙◌}
use Rattle.tracing_core.specs.FieldSet.{field_names, set_callsite}
use Rattle.tracing_core.specs.PlainValue.{PlainValue, debug_of}
use Rattle.tracing_core.specs.ValueSet.{entries_of, fields_of_values}
use Rattle.uses.proofs.Letters.{written}
use Rattle.uses.specs.Letters.{text_letter}
use Rattle.uses.specs.declared.visitor.Texts.{Texts}
use Rattle.uses.proofs.visitor.texts_of.Goals as goal

abbrev debug_letter : PlainValue → ℕ
debug_letter value = text_letter (debug_of value)

pub returns : goal.returns
returns c =
    let fields = fields_of_values c.args.values.now in
    written (λ (v : Texts). string_bytes v.letters) debug_letter (set_callsite fields) (field_names fields) c.in_ok-record.ensures
    ∙ ap (λ (bytes : List ℕ). bytes ++ map (λ (entry : ℕ × PlainValue). debug_letter entry.1) (entries_of c.args.values.now))
    c.new.ensures.bytes
