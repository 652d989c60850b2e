-- A name is told by its stack and its id.
use Rattle.std.proofs.Common.{◌≡◌, ◌<◌, ℕ, zero, suc, refl, sym, ◌∙◌, ap, arith}
use Rattle.std.proofs.Math.Bridge.{le_prop}
use Rattle.std.proofs.Math.Nat.{zero-lt-suc}
use Rattle.std.specs.declared.num.NonZeroU64.{NonZeroU64}
use Rattle.span_tracing_skeleton.specs.SpanNames.{number_of}
use Rattle.span_tracing_skeleton.specs.declared.call.SpanName.{SpanName}

with_proof : (n : ℕ) (positive : 0 < n) → record { value = n; ok = positive } ≡ number_of n
with_proof zero positive = absurd (omega (arith, positive))
with_proof (suc n) positive =
    ap (λ (ok : 0 < suc n). record { value = suc n; ok = ok }) (le_prop positive (zero-lt-suc n))

pub number_is : (x : NonZeroU64) (n : ℕ) → x.value ≡ n → x ≡ number_of n
number_is x n e = with_proof x.value x.ok ∙ ap number_of e

-- a stack and a number of an id have one name
pub one_name : (a b : SpanName) → a.stack ≡ b.stack → a.id.value ≡ b.id.value → a ≡ b
one_name a b stack id =
    ap (λ (n : ℕ). record { stack = n; id = a.id }) stack ∙
    ap (λ (x : NonZeroU64). record { stack = b.stack; id = x }) (number_is a.id b.id.value id ∙ sym (number_is b.id b.id.value refl))
