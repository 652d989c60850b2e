use Rattle.std.proofs.Common.{◌+◌, arith}
use Rattle.std.proofs.lemmas.List.{drop_all, length-drop}
use Rattle.tracing_core_fields.proofs.FieldLemmas.{length-fields_named, drop-fields_named}
use Rattle.tracing_core_fields.specs.FieldSet.{field_names, set_callsite, plain_fields}
use Rattle.tracing_core_fields.proofs.field.IterIterator.next.Goals as goal

pub returns-then-self-len-clause-steps : goal.returns-then-self-len-clause-steps
returns-then-self-len-clause-steps c =
    let set = c.args.self.now.fields in
    let none = drop_all c.args.self.now.next_index (plain_fields set)
    (omega (arith, length-fields_named (set_callsite set) 0 (field_names set), c.len.ensures, c.if-self-len.true)) in
    (none, none)

pub returns-clause-steps : goal.returns-clause-steps
returns-clause-steps c =
    let set = c.args.self.now.fields in
    drop-fields_named (set_callsite set) (field_names set) c.args.self.now.next_index (omega (arith, c.len.ensures, c.if-self-len.false))

pub returns-clause-goes : goal.returns-clause-goes
returns-clause-goes c =
    let set = c.args.self.now.fields in
    let place = c.args.self.now.next_index in
    record {
      on = λ _. (
        tt,
        tt,
        omega (
          arith,
          length-drop place (plain_fields set),
          length-drop (place + 1) (plain_fields set),
          length-fields_named (set_callsite set) 0 (field_names set),
          c.len.ensures,
          c.if-self-len.false,
        ),
      );
      keeps = tt;
      rests = λ _. tt;
    }
