-- A subscriber that is handed to a closure for writing.
use Rattle.std.specs.Prelude.{◌≡◌, ℕ, List, Option, Some, None}
use Rattle.std.specs.Borrow.{MutBor}
use Rattle.std.specs.Fn.{Once, FnOnceReturnsAtMut}
use Rattle.tracing_core.specs.Commands.{becomes}
use Rattle.tracing_core.specs.HandleSubscribers.{living_of, living_changed}
use Rattle.tracing_core_fields.specs.requests.Steady.{SameWord}
use Rattle.tracing_core.specs.TableRows.{KeptSubscriber}
use Rattle.tracing_core_fields.specs.declared.requests.subscriber.Subscriber.{Ghosts}

-- the later value is consistent where the earlier one is, and says the same of its interests, and of its hint
abbrev pub AnswersAlike : {S : Type 0} → Ghosts S → S → S → Type 0
AnswersAlike g x y = g.steady x → g.steady y × SameWord (g.says x) (g.says y) (g.hint x) (g.hint y)

module _ {S F T : Type 0} (g : Once F (MutBor S × Unit {0}) (T × (MutBor S × Unit {0}))) (f : F) where
  -- a call of f leaves a subscriber so, whatever the subscriber
  abbrev pub ChangesBy : (S → S → Type 0) → Type 0
  ChangesBy R = (x y : S) (answer : T) → FnOnceReturnsAtMut g f x answer y → R x y

  abbrev pub ChangeGivesAt : Option ℕ → List (KeptSubscriber S) → Option (KeptSubscriber S) → Option T → List (KeptSubscriber S) → Type 0
  ChangeGivesAt dispatch es None result fs = (result ≡ None) × (fs ≡ es)
  ChangeGivesAt dispatch es (Some e) result fs =
      (answer : T) × (after : S) × (result ≡ Some answer) × FnOnceReturnsAtMut g f e.subscriber answer after
      × (fs ≡ living_changed dispatch (becomes after) es)

  -- f was called once with the subscriber of the handle, where it lives, and nothing else of the hub changed
  abbrev pub ChangeGives : Option ℕ → List (KeptSubscriber S) → Option T → List (KeptSubscriber S) → Type 0
  ChangeGives dispatch es result fs = ChangeGivesAt dispatch es (living_of dispatch es) result fs
