use Rattle.std.proofs.Common.{◌&&◌, ◌∙◌, ap, sym}
use Rattle.std.specs.Cmp.Lexicographic.{pointwise}
use Rattle.std.specs.Str.{bytes_eq}
use Rattle.tracing_core_fields.specs.FieldSet.{field_names}
use Rattle.tracing_core_fields.specs.FieldSet.{is_same_set-decides}
use Rattle.tracing_core_fields.proofs.field.FieldSetPartialEq.eq.Goals as goal

pub returns-then-eq-clause-test : goal.returns-then-eq-clause-test
returns-then-eq-clause-test c =
    let names = pointwise bytes_eq (field_names c.args.self.now) (field_names c.args.other.now) in
    c.are.ensures ∙ ap (λ t. t && names) (sym (sym c.eq.ensures ∙ c.if-eq.true))

pub returns-then-eq-clause-same : goal.returns-then-eq-clause-same
returns-then-eq-clause-same c =
    let test = returns-then-eq-clause-test c in
    let decides = is_same_set-decides c.args.self.now c.args.other.now in
    (λ same. decides.0 (sym test ∙ same), λ same. test ∙ decides.1 same)
