-- A span that isn't refused.
use Rattle.std.proofs.Common.{◌≡◌, ◌≤◌, ℕ, List, Bool, true, false, None, Ok, Err, refl, arith, nat_lt}
use Rattle.std.proofs.lemmas.Bool.Decides.{nat_tests}
use Rattle.tracing_core_fields.specs.declared.requests.arguments.parent.Parent.{Parent}
use Rattle.tracing_core_fields.specs.PlainMetadata.{PlainMetadata}
use Rattle.tracing_core_fields.specs.requests.PlainRequests.{explicit_parent}
use Rattle.tracing_core_fields.specs.declared.requests.refusal.RequestError.TheVariants.{OutOfMemory}
use Rattle.span_registry_layers_store.specs.RegistryCalls.{SpanGives, most, span_refusal}
use Rattle.span_registry_layers_store.specs.Registries.{RegistryValue, knows, under, with_span}

module _ (x y : RegistryValue) (m : PlainMetadata) (parent : Parent) (lane : ℕ) (passed : List Bool) where
  none_refused : knows x (explicit_parent parent) ≡ true → x.next_id ≤ most → span_refusal x parent ≡ None
  none_refused known left = let t : nat_lt most x.next_id ≡ false = grind (arith, nat_tests, left) in rw (known, t) refl

  pub makes : (id : ℕ) → knows x (explicit_parent parent) ≡ true → x.next_id ≤ most → id ≡ x.next_id →
      y ≡ with_span x m (under x lane parent) passed → SpanGives x m parent lane passed (Ok id) y
  makes id known left e is = rw (none_refused known left) (e, is)

  pub lacks : knows x (explicit_parent parent) ≡ true → x.next_id ≤ most → y ≡ x → SpanGives x m parent lane passed (Err OutOfMemory) y
  lacks known left is = rw (none_refused known left) (refl, is)
