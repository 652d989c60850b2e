-- A filter that may be absent: where it is, all passes.
use Rattle.std.specs.Prelude.{◌≡◌, ℕ, Bool, true, Option, Some, None}
use Rattle.std.proofs.Common.{sym, subst, ◌∙◌}
use Rattle.tracing_core_fields.specs.declared.requests.interest.InterestInner.TheVariants.{Always}
use Rattle.tracing_core_fields.specs.requests.Interests.{PlainInterest}
use Rattle.tracing_core_fields.specs.PlainMetadata.{PlainMetadata}
use Rattle.tracing_core_fields.specs.requests.PlainRequests.{PlainEvent}
use Rattle.tracing_core_fields.specs.requests.Steady.{InterestFits, SameWord}
use Rattle.span_registry_layers_layers.specs.Combined.{same_word}
use Rattle.span_registry_layers_layers.specs.Honesty.{Fair, Firm, Single}
use Rattle.span_registry_layers_layers.specs.FilterViews.{Hook, View}
use Rattle.span_registry_layers_layers.specs.declared.filter.Filter.{Ghosts}

-- where one is absent all passes, and says so
module _ {A : Type 0} where
  abbrev pub AnswersIf : (A → PlainMetadata → View → Bool → Type 0) → Option A → PlainMetadata → View → Bool → Type 0
  AnswersIf R None m v b = b ≡ true
  AnswersIf R (Some x) m v b = R x m v b

  abbrev pub EventAnswersIf : (A → PlainEvent → View → Bool → Type 0) → Option A → PlainEvent → View → Bool → Type 0
  EventAnswersIf R None e v b = b ≡ true
  EventAnswersIf R (Some x) e v b = R x e v b

  abbrev pub SaysIf : (A → PlainMetadata → PlainInterest → Type 0) → Option A → PlainMetadata → PlainInterest → Type 0
  SaysIf R None m k = k ≡ Always
  SaysIf R (Some x) m k = R x m k

module _ {F : Type 0} (g : Ghosts F) where
  abbrev pub hint_of : Option F → Option ℕ
  hint_of None = None
  hint_of (Some f) = g.hint f

  abbrev pub after_of : Option F → Hook → Option F
  after_of None h = None
  after_of (Some f) h = Some (g.after f h)

  abbrev pub IsHonest : Option F → Type 0
  IsHonest None = Unit {0}
  IsHonest (Some f) = g.honest f

  pub optional_fair : (o : Option F) → IsHonest o → Fair (AnswersIf g.answers o) (SaysIf g.says o) (hint_of o)
  optional_fair None k = record { interest = λ m v b i a s. subst (λ j. InterestFits j b) (sym s) a; below = λ m v b a. tt }
  optional_fair (Some f) k = g.fair f k

  pub optional_stays : (o : Option F) (h : Hook) → IsHonest o → IsHonest (after_of o h) ×
      SameWord (SaysIf g.says o) (SaysIf g.says (after_of o h)) (hint_of o) (hint_of (after_of o h))
  optional_stays None h k = (tt, same_word (SaysIf g.says None) None)
  optional_stays (Some f) h k = g.stays f h k

  pub optional_single : (o : Option F) → IsHonest o → Single (AnswersIf g.answers o) (EventAnswersIf g.event_answers o)
  optional_single None k = record { callsite = λ m v a b x y. x ∙ sym y; event = λ e v a b x y. x ∙ sym y }
  optional_single (Some f) k = g.single f k

  pub optional_firm : (o : Option F) → IsHonest o → Firm (SaysIf g.says o) (hint_of o)
  optional_firm None k = record { one = λ m i j x y. x ∙ sym y; below = λ m v s. tt }
  optional_firm (Some f) k = g.firm f k
