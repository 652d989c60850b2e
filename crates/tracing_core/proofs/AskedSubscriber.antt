-- What asking one subscriber gives, by its index.
use Rattle.std.proofs.Common.{◌≡◌, ℕ, ◌<◌, ◌≤◌, Bool, true, false, List, length, get_or, set, Option, Some, refl, ap, sym, ◌∙◌, arith}
use Rattle.tracing_core_fields.specs.PlainMetadata.{PlainMetadata}
use Rattle.tracing_core_fields.specs.requests.Calls.{Asked}
use Rattle.tracing_core.specs.Commands.{AskGives, becomes}
use Rattle.tracing_core.specs.Handles.{subscriber_with, is_of}
use Rattle.tracing_core_moments.specs.declared.at.At.{At}
use Rattle.tracing_core.specs.TableRows.{KeptSubscriber}
use Rattle.tracing_core_fields.specs.declared.requests.subscriber.Subscriber.{Ghosts}
use Rattle.tracing_core.proofs.Subscribers.{entry_at, changed_at, entry_absent}

module _ {S : Type 0} (g : Ghosts S) (m : PlainMetadata) (place : At) (serial : Option ℕ) (number : ℕ) (es : List (KeptSubscriber S))
    (is : serial ≡ Some number) where
  pub nobody : ((k : ℕ) (d : KeptSubscriber S) → 0 ≤ k → k < length es → is_of number (get_or es k d) ≡ false) →
      AskGives g m place serial es false es
  nobody none = rw (is, entry_absent number es none) (refl, refl)

  -- what is kept of it, before and after
  pub somebody : (i : ℕ) (d x e : KeptSubscriber S) → (i < length es) × ((e : KeptSubscriber S) → is_of number (get_or es i e) ≡ true) ×
      ((k : ℕ) (e : KeptSubscriber S) → 0 ≤ k → k < i → is_of number (get_or es k e) ≡ false) → (answer : Bool) → x ≡ get_or es i d →
      g.answers x.subscriber m place answer → g.moves x.subscriber (Asked m place) answer e.subscriber → e ≡ becomes e.subscriber x →
      AskGives g m place serial es answer (set es i e)
  somebody i d x e found answer before a v rest =
      let there : subscriber_with number es ≡ Some x = entry_at number es i d found.0 (found.1 d) (λ k h. found.2 k d (omega arith) h) ∙
      ap (λ (y : KeptSubscriber S). Some y) (sym before) in
      let left = changed_at number (becomes e.subscriber) es i d found.0 (found.1 d) (λ k h. found.2 k d (omega arith) h) in
      rw (is, there) (e.subscriber, a, v, ap (λ (y : KeptSubscriber S). set es i y) (rest ∙ ap (becomes e.subscriber) before) ∙ sym left)
