-- Making spans.
use Rattle.std.proofs.Common.{◌≡◌, ℕ, Bool, true, false, List, Option, None, Result, Ok, refl, sym, subst}
use Rattle.tracing_core_moments.specs.declared.at.At.{At}
use Rattle.tracing_core_fields.specs.requests.PlainRequests.{PlainAttributes, explicit_parent}
use Rattle.tracing_core_fields.specs.declared.requests.refusal.RequestError.{RequestError}
use Rattle.span_registry_layers_store.specs.Registries.{knows}
use Rattle.span_registry_layers_layers.specs.declared.filter.Filter.{Ghosts}
use Rattle.span_registry_layers_layers.specs.declared.filtered.Filtered.{Filtered}
use Rattle.span_registry_layers_layers.specs.declared.layer.Layer.{Ghosts as LayerGhosts}
use Rattle.span_registry_layers.specs.Calls.{AsksUnless, MakesSpan, NewSpanUnless, SpanKnown, SpanUnless, SpanWhere}
use Rattle.span_registry_layers.specs.Stacks.{StackValue, cleared}

module _ {L F : Type 0} (g : Ghosts F) (h : LayerGhosts L) where
  unless_asked : (c : Bool) (verdicts : List Bool) (some : Bool) (a : PlainAttributes) (at : At) (s : StackValue (Filtered L F))
      (r : Result (Option ℕ) RequestError) (t : StackValue (Filtered L F)) → AsksUnless g h c a.metadata at s verdicts some →
      SpanWhere g h some a at verdicts s r t → SpanUnless g h c a at s r t
  unless_asked true verdicts some a at s r t asked given = subst (λ b. SpanWhere g h b a at verdicts s r t) asked given
  unless_asked false verdicts some a at s r t asked given = (verdicts, some, asked, given)

  by_asking : (refused : Bool) (verdicts : List Bool) (some : Bool) (a : PlainAttributes) (at : At) (s : StackValue (Filtered L F))
      (r : Result (Option ℕ) RequestError) (t : StackValue (Filtered L F)) → knows s.registry (explicit_parent a.parent) ≡ true →
      AsksUnless g h refused a.metadata at s verdicts some → SpanWhere g h some a at verdicts s r t → NewSpanUnless g h refused a at s r t
  by_asking refused verdicts some a at s r t known asked given =
      subst (λ k. SpanKnown g h k s (SpanUnless g h refused a at s) r t) (sym known)
      (unless_asked refused verdicts some a at s r t asked given)

  pub span_dropped : (refused some : Bool) (verdicts : List Bool) (a : PlainAttributes) (at : At) (s t : StackValue (Filtered L F)) →
      knows s.registry (explicit_parent a.parent) ≡ true →
      AsksUnless g h refused a.metadata at s verdicts some → some ≡ false → t ≡ cleared s → NewSpanUnless g h refused a at s (Ok None) t
  span_dropped refused some verdicts a at s t known asked e same = by_asking refused verdicts some a at s (Ok None) t known asked
      (subst (λ b. SpanWhere g h b a at verdicts s (Ok None) t) (sym e) (refl, same))

  pub span_made : (refused some : Bool) (verdicts : List Bool) (a : PlainAttributes) (at : At) (s : StackValue (Filtered L F))
      (r : Result (Option ℕ) RequestError) (t : StackValue (Filtered L F)) → knows s.registry (explicit_parent a.parent) ≡ true →
      AsksUnless g h refused a.metadata at s verdicts some → some ≡ true → MakesSpan g h a at verdicts s r t →
      NewSpanUnless g h refused a at s r t
  span_made refused some verdicts a at s r t known asked e made = by_asking refused verdicts some a at s r t known asked
      (subst (λ b. SpanWhere g h b a at verdicts s r t) (sym e) made)
