-- What a closure may answer of metadata, and of a line.
use Rattle.std.specs.Prelude.{◌≡◌, ℕ, Bool, List, Result}
use Rattle.std.specs.Borrow.{Bor}
use Rattle.std.specs.declared.io.Error.{Error}
use Rattle.tracing_core_fields.specs.Metadata.{plain_metadata}
use Rattle.tracing_core_fields.specs.PlainMetadata.{PlainMetadata}
use Rattle.tracing_core_fields.specs.declared.metadata.Metadata.{Metadata}

-- it answered so of metadata that says this
abbrev pub AnswersOf : (Bor Metadata → Bool → Type 0) → PlainMetadata → Bool → Type 0
AnswersOf post m b = (metadata : Bor Metadata) × (plain_metadata metadata.now ≡ m) × post metadata b

-- it answered so of a line of metadata that says this, and was left so
abbrev pub TakesLine : {F : Type 0} → (Bor Metadata → Bor (List ℕ) → Result (Unit {0}) Error → F → Type 0) → PlainMetadata → List ℕ →
    Result (Unit {0}) Error → F → Type 0
TakesLine step m line answer after =
    (metadata : Bor Metadata) × (text : Bor (List ℕ)) × (plain_metadata metadata.now ≡ m) × (text.now ≡ line) ×
    step metadata text answer after
