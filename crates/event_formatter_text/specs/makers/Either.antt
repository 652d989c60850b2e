-- Writers of one of two types.
use Rattle.std.specs.Prelude.{ℕ, List, Option, Some, None}
use Rattle.std.specs.declared.io.Sink.{Sink}
use Rattle.event_formatter_text.specs.declared.makers.either.EitherWriter.{EitherWriter}
use Rattle.event_formatter_text.specs.declared.makers.either.EitherWriter.TheVariants.{A, B}

-- what the writer of its side holds
abbrev pub contents_of : {X Y : Type 0} → (X → Option (List ℕ)) → (Y → Option (List ℕ)) → EitherWriter X Y → Option (List ℕ)
contents_of first second (A writer) = first writer
contents_of first second (B writer) = second writer

-- both write to the same side
abbrev pub IsSameSide : {X Y : Type 0} → EitherWriter X Y → EitherWriter X Y → Type 0
IsSameSide (A before) (A after) = Unit {0}
IsSameSide (A before) (B after) = ⊥
IsSameSide (B before) (A after) = ⊥
IsSameSide (B before) (B after) = Unit {0}

-- the writer, or one that writes nothing
abbrev pub optional : {X : Type 0} → Option X → EitherWriter X Sink
optional (Some writer) = A writer
optional None = B (record {})
