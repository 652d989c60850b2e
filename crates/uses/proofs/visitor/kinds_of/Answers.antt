use Rattle.std.proofs.Common.{ℕ, List, ◌++◌, ap, map, string_bytes, ◌∙◌}
use Rattle.tracing_core.specs.FieldSet.{field_names, set_callsite}
use Rattle.tracing_core.specs.PlainValue.{PlainValue}
use Rattle.tracing_core.specs.ValueSet.{entries_of, fields_of_values}
use Rattle.uses.proofs.Letters.{written}
use Rattle.uses.specs.Letters.{kind_letter}
use Rattle.uses.specs.declared.visitor.Kinds.{Kinds}
use Rattle.uses.proofs.visitor.kinds_of.Goals as goal

pub returns : goal.returns
returns c =
    let fields = fields_of_values c.args.values.now in
    written (λ (v : Kinds). string_bytes v.letters) kind_letter (set_callsite fields) (field_names fields) c.in_ok-record.ensures
    ∙ ap (λ (bytes : List ℕ). bytes ++ map (λ (entry : ℕ × PlainValue). kind_letter entry.1) (entries_of c.args.values.now))
    c.new.ensures.bytes
