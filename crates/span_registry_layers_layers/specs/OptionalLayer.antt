-- A layer that may be absent: where it is, it vetoes nothing, but its hint is that nothing passes.
use Rattle.std.specs.Prelude.{◌≡◌, ℕ, Bool, false, List, [], Option, Some, None, refl}
use Rattle.tracing_core_fields.specs.PlainMetadata.{PlainMetadata}
use Rattle.tracing_core_fields.specs.requests.Steady.{SameWord}
use Rattle.span_registry_layers_layers.specs.Honesty.{Fair, OneAnswer}
use Rattle.span_registry_layers_layers.specs.FilterViews.{View}
use Rattle.span_registry_layers_layers.specs.Notices.{Notice, Untouched, WritesUnder, untouched_writes}
use Rattle.span_registry_layers_layers.specs.FilterNumbers.{NumbersStay, no_numbers}
use Rattle.span_registry_layers_layers.specs.OptionalFilter.{AnswersIf, SaysIf}
use Rattle.span_registry_layers_layers.specs.declared.layer.Layer.{Ghosts}

module _ {L : Type 0} (g : Ghosts L) where
  abbrev pub hint_of : Option L → Option ℕ
  hint_of None = Some 0
  hint_of (Some l) = g.hint l

  abbrev pub NotifiedOf : Option L → Notice → Option L → Type 0
  NotifiedOf None n None = Untouched n
  NotifiedOf None n (Some m) = ⊥
  NotifiedOf (Some l) n None = ⊥
  NotifiedOf (Some l) n (Some m) = g.told l n m

  -- an absent one isn't consistent
  abbrev pub IsHonest : Option L → Type 0
  IsHonest None = ⊥
  IsHonest (Some l) = g.honest l

  pub absent_fair : (o : Option L) → IsHonest o → Fair (AnswersIf g.answers o) (SaysIf g.says o) (hint_of o)
  absent_fair None k = absurd k
  absent_fair (Some l) k = g.fair l k

  pub absent_stays : (o : Option L) (n : Notice) (p : Option L) → NotifiedOf o n p → IsHonest o → IsHonest p ×
      SameWord (SaysIf g.says o) (SaysIf g.says p) (hint_of o) (hint_of p)
  absent_stays None n p t k = absurd k
  absent_stays (Some l) n None t k = absurd t
  absent_stays (Some l) n (Some m) t k = g.stays l n m t k

  abbrev pub filters_of : Option L → ℕ
  filters_of None = 0
  filters_of (Some l) = g.filters l

  abbrev pub numbers_of : Option L → List ℕ
  numbers_of None = []
  numbers_of (Some l) = g.numbers l

  abbrev pub KeptOf : Option L → PlainMetadata → View → Bool → List Bool → Bool → Type 0
  KeptOf None m v passes verdicts some = some ≡ false
  KeptOf (Some l) m v passes verdicts some = g.kept l m v passes verdicts some

  pub absent_numbered : (o : Option L) (n : Notice) (p : Option L) → NotifiedOf o n p → NumbersStay n (numbers_of o) (numbers_of p)
  absent_numbered None n None t = no_numbers n
  absent_numbered None n (Some m) t = absurd t
  absent_numbered (Some l) n None t = absurd t
  absent_numbered (Some l) n (Some m) t = g.numbered l n m t

  pub absent_once : (o : Option L) → IsHonest o → OneAnswer (KeptOf o)
  absent_once None k = absurd k
  absent_once (Some l) k = g.once l k

  abbrev pub keys_of : Option L → ℕ → Bool
  keys_of None key = false
  keys_of (Some l) key = g.keys l key

  pub absent_aside : (o : Option L) (n : Notice) (p : Option L) → NotifiedOf o n p → WritesUnder (keys_of o) n
  absent_aside None n None t = untouched_writes (λ key. false) n t
  absent_aside None n (Some m) t = absurd t
  absent_aside (Some l) n None t = absurd t
  absent_aside (Some l) n (Some m) t = g.aside l n m t

  pub absent_keyed : (o : Option L) (n : Notice) (p : Option L) → NotifiedOf o n p → (key : ℕ) → keys_of p key ≡ keys_of o key
  absent_keyed None n None t key = refl
  absent_keyed None n (Some m) t key = absurd t
  absent_keyed (Some l) n None t key = absurd t
  absent_keyed (Some l) n (Some m) t key = g.keyed l n m t key
