-- A text that was written into an empty draft is all that the draft holds.
use Rattle.std.proofs.Common.{◌≡◌, ℕ, List, [], ◌++◌, Option, Some, None, Result, Ok, Err, IfOk, IfSome, OnOk, ap, subst, sym, ◌∙◌}
use Rattle.std.proofs.Common.{string_bytes}
use Rattle.std.specs.Fmt.{WritesText}
use Rattle.std.specs.declared.alloc.AllocError.{AllocError}
use Rattle.std.specs.declared.alloc.Global.{Global}
use Rattle.std.specs.declared.fmt.Error as fmt
use Rattle.std.specs.declared.string.String.{String}
use Rattle.std.proofs.lemmas.Fmt.{contents_after_writes}
use Rattle.tracing_core_fields.specs.declared.draft.Draft.{Draft}

abbrev Appends : Draft → List ℕ → Draft → Type 0
Appends before bytes after = string_bytes after.text ≡ string_bytes before.text ++ bytes

written_is : (start draft : Draft) (output : Option (List ℕ)) → string_bytes start.text ≡ [] → WritesText Appends start output draft →
    IfSome output (λ bytes. string_bytes draft.text ≡ bytes)
written_is start draft None empty writes = tt
written_is start draft (Some bytes) empty writes =
    contents_after_writes Appends (λ (d : Draft). string_bytes d.text) (λ w bs v took. took) start bytes draft writes
    ∙ ap (λ text. text ++ bytes) empty

pub finished_is : (start draft : Draft) (output : Option (List ℕ)) (written : Result (Unit {0}) fmt.Error)
    (finished : Result (Option (String Global)) AllocError) → string_bytes start.text ≡ [] →
    OnOk written (WritesText Appends start output draft) → IfOk finished (λ text. IfSome text (λ t. (written ≡ Ok tt) × (t ≡ draft.text))) →
    IfOk finished (λ text. IfSome text (λ t. IfSome output (λ bytes. string_bytes t ≡ bytes)))
finished_is start draft output written (Err e) empty writes is = tt
finished_is start draft output written (Ok None) empty writes is = tt
finished_is start draft output written (Ok (Some text)) empty writes is =
    let whole = written_is start draft output empty (subst (λ w. OnOk w (WritesText Appends start output draft)) is.0 writes) in
    subst (λ t. IfSome output (λ bytes. string_bytes t ≡ bytes)) (sym is.1) whole
