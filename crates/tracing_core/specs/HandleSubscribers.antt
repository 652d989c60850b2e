-- What is lent.
use Rattle.std.specs.Prelude.{ℕ, List, Option, Some, None, true, ◌≡◌, slice_get, slice_set}
use Rattle.tracing_core.specs.Handles.{subscriber_with, changed}
use Rattle.tracing_core.specs.TableRows.{KeptSubscriber}

-- the subscriber that a handle leads to, where it lives
abbrev pub living_of : {S : Type 0} → Option ℕ → List (KeptSubscriber S) → Option (KeptSubscriber S)
living_of None es = None
living_of (Some serial) es = subscriber_with serial es

-- lent for writing, and given back as this
abbrev pub given_as : {S : Type 0} → S → KeptSubscriber S → KeptSubscriber S
given_as subscriber e = record e { lent = true; subscriber = subscriber }

-- the subscriber of a handle changed, where it lives
abbrev pub living_changed : {S : Type 0} → Option ℕ → (KeptSubscriber S → KeptSubscriber S) → List (KeptSubscriber S) →
    List (KeptSubscriber S)
living_changed None f es = es
living_changed (Some serial) f es = changed serial f es

abbrev pub lent_to : {S : Type 0} → Option ℕ → S → List (KeptSubscriber S) → List (KeptSubscriber S)
lent_to dispatch subscriber es = living_changed dispatch (given_as subscriber) es

-- the index of the subscriber of the number, or one past the end where there is none
abbrev pub IsIndexOrEnd : {S : Type 0} → Option ℕ → List (KeptSubscriber S) → ℕ → Type 0
IsIndexOrEnd {S = S} serial es index =
    (slice_get es index ≡ living_of serial es)
    × ((f : KeptSubscriber S → KeptSubscriber S) → slice_get es index ≡ None → living_changed serial f es ≡ es)
    × ((f : KeptSubscriber S → KeptSubscriber S) (e : KeptSubscriber S) → slice_get es index ≡ Some e →
    living_changed serial f es ≡ slice_set es index (f e))

-- the same, of what lending does
abbrev pub IsIndexToLend : {S : Type 0} → Option ℕ → List (KeptSubscriber S) → ℕ → Type 0
IsIndexToLend {S = S} serial es index =
    (slice_get es index ≡ living_of serial es)
    × ((subscriber : S) → slice_get es index ≡ None → lent_to serial subscriber es ≡ es)
    × ((subscriber : S) (e : KeptSubscriber S) → slice_get es index ≡ Some e →
    lent_to serial subscriber es ≡ slice_set es index (given_as subscriber e))
