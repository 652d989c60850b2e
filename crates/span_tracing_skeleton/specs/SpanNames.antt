-- The names of spans.
use Rattle.std.specs.Prelude.{ℕ, zero, suc}
use Rattle.std.proofs.Math.Nat.{zero-lt-suc}
use Rattle.std.specs.declared.num.NonZeroU64.{NonZeroU64}
use Rattle.span_tracing_skeleton.specs.declared.call.SpanName.{SpanName}

-- an id, as a name has it; no id is 0
abbrev pub number_of : ℕ → NonZeroU64
number_of zero = record { value = 1; ok = zero-lt-suc 0 }
number_of (suc n) = record { value = suc n; ok = zero-lt-suc n }

-- the name of the span of a stack with this id
abbrev pub name_of : ℕ → ℕ → SpanName
name_of stack id = record { stack = stack; id = number_of id }
