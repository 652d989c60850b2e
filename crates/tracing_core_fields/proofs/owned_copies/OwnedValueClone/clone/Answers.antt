use Rattle.std.proofs.Common.{ℕ, List, Some, ap, sym, ◌∙◌, map}
use Rattle.std.specs.Prelude.{string_bytes}
use Rattle.tracing_core_fields.specs.OwnedValues.{plain_owned}
use Rattle.tracing_core_fields.specs.PlainValue.{Error}
use Rattle.tracing_core_fields.proofs.OwnedCopies.{texts_copied}
use Rattle.tracing_core_fields.proofs.owned_copies.OwnedValueClone.clone.Goals as goal

pub returns-in_ok-clone-in-Error-2 : goal.returns-in_ok-clone-in-Error-2
returns-in_ok-clone-in-Error-2 c =
    let copies = c.in_ok-clone-in-Error-2.field-0.items in
    record {
      cases = ap (λ (text : List ℕ). Some (Error text (map string_bytes copies))) c.in_ok-clone-in-Error.ensures.cases
          ∙ ap (λ (texts : List (List ℕ)). Some (Error (string_bytes c.in-Error.text) texts))
          (texts_copied c.in-Error.sources.items copies c.in_ok-clone-in-Error-2.ensures.cases.0)
          ∙ ap plain_owned (sym c.in-Error.is);
    }
