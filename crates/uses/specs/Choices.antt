-- One of two filters: it answers what that one does.
use Rattle.std.specs.Prelude.{ℕ, Bool, Option}
use Rattle.tracing_core.specs.Interests.{PlainInterest}
use Rattle.tracing_core.specs.PlainMetadata.{PlainMetadata}
use Rattle.tracing_core.specs.PlainRequests.{PlainEvent}
use Rattle.tracing_core.specs.Steady.{SameWord}
use Rattle.span_registry_layers.specs.Filter.{Ghosts}
use Rattle.span_registry_layers.specs.Honesty.{Fair, Firm, Single}
use Rattle.span_registry_layers.specs.FilterViews.{Hook, View}
use Rattle.uses.specs.declared.choice.Choice.{Choice}
use Rattle.uses.specs.declared.choice.Choice.TheVariants.{First, Second}

module _ {A B : Type 0} (g : Ghosts A) (h : Ghosts B) where
  abbrev pub Answers : Choice A B → PlainMetadata → View → Bool → Type 0
  Answers (First a) m v r = g.answers a m v r
  Answers (Second b) m v r = h.answers b m v r

  abbrev pub EventAnswers : Choice A B → PlainEvent → View → Bool → Type 0
  EventAnswers (First a) e v r = g.event_answers a e v r
  EventAnswers (Second b) e v r = h.event_answers b e v r

  abbrev pub Says : Choice A B → PlainMetadata → PlainInterest → Type 0
  Says (First a) m k = g.says a m k
  Says (Second b) m k = h.says b m k

  abbrev pub hint_of : Choice A B → Option ℕ
  hint_of (First a) = g.hint a
  hint_of (Second b) = h.hint b

  abbrev pub after_of : Choice A B → Hook → Choice A B
  after_of (First a) call = First (g.after a call)
  after_of (Second b) call = Second (h.after b call)

  abbrev pub IsHonest : Choice A B → Type 0
  IsHonest (First a) = g.honest a
  IsHonest (Second b) = h.honest b

  pub choice_fair : (c : Choice A B) → IsHonest c → Fair (Answers c) (Says c) (hint_of c)
  choice_fair (First a) k = g.fair a k
  choice_fair (Second b) k = h.fair b k

  pub choice_stays : (c : Choice A B) (call : Hook) → IsHonest c → IsHonest (after_of c call) ×
      SameWord (Says c) (Says (after_of c call)) (hint_of c) (hint_of (after_of c call))
  choice_stays (First a) call k = g.stays a call k
  choice_stays (Second b) call k = h.stays b call k

  pub choice_single : (c : Choice A B) → IsHonest c → Single (Answers c) (EventAnswers c)
  choice_single (First a) k = g.single a k
  choice_single (Second b) k = h.single b k

  pub choice_firm : (c : Choice A B) → IsHonest c → Firm (Says c) (hint_of c)
  choice_firm (First a) k = g.firm a k
  choice_firm (Second b) k = h.firm b k
