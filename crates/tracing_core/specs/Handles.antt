-- Handles: how many lead to each subscriber, and what taking and giving back one does.
use Rattle.std.specs.Prelude.{ℕ, ◌+◌, ◌-◌, ◌==◌, Bool, if◌then◌else◌, nat_le, List, [], ◌∷◌, Option, Some, None}
use Rattle.tracing_core.specs.TableRows.{KeptSubscriber}
use Rattle.tracing_core.specs.declared.refusal.HandleError.{HandleError}
use Rattle.tracing_core.specs.declared.refusal.HandleError.TheVariants.{Unknown, TooMany}

-- the greatest count
abbrev pub most : ℕ
most = 18446744073709551615

abbrev pub is_of : {S : Type 0} → ℕ → KeptSubscriber S → Bool
is_of serial e = e.serial == serial

-- the subscriber of the number, where it lives
abbrev pub subscriber_with : {S : Type 0} → ℕ → List (KeptSubscriber S) → Option (KeptSubscriber S)
subscriber_with serial [] = None
subscriber_with serial (e ∷ es) = if is_of serial e then Some e else subscriber_with serial es

-- the subscriber of the number changed, the others as they are
abbrev pub changed : {S : Type 0} → ℕ → (KeptSubscriber S → KeptSubscriber S) → List (KeptSubscriber S) → List (KeptSubscriber S)
changed serial f [] = []
changed serial f (e ∷ es) = if is_of serial e then f e ∷ es else e ∷ changed serial f es

-- the others
abbrev pub without : {S : Type 0} → ℕ → List (KeptSubscriber S) → List (KeptSubscriber S)
without serial [] = []
without serial (e ∷ es) = if is_of serial e then es else e ∷ without serial es

abbrev pub one_more : {S : Type 0} → KeptSubscriber S → KeptSubscriber S
one_more e = record e { handles = e.handles + 1 }

abbrev pub one_less : {S : Type 0} → KeptSubscriber S → KeptSubscriber S
one_less e = record e { handles = e.handles - 1 }

abbrev pub refusal_at : {S : Type 0} → Option (KeptSubscriber S) → Option HandleError
refusal_at None = Some Unknown
refusal_at (Some e) = if e.handles == most then Some TooMany else None

-- why there can't be one more handle to what this one leads to
abbrev pub hold_refusal : {S : Type 0} → Option ℕ → List (KeptSubscriber S) → Option HandleError
hold_refusal None es = None
hold_refusal (Some serial) es = refusal_at (subscriber_with serial es)

-- with one more handle
abbrev pub held : {S : Type 0} → Option ℕ → List (KeptSubscriber S) → List (KeptSubscriber S)
held None es = es
held (Some serial) es = changed serial one_more es

-- the subscriber whose last handle was given back, and who is left
abbrev pub given_back_at : {S : Type 0} → ℕ → List (KeptSubscriber S) → Option (KeptSubscriber S) → Option S × List (KeptSubscriber S)
given_back_at serial es None = (None, es)
given_back_at serial es (Some e) = if nat_le e.handles 1 then (Some e.subscriber, without serial es) else (None, changed serial one_less es)

abbrev pub given_back : {S : Type 0} → Option ℕ → List (KeptSubscriber S) → Option S × List (KeptSubscriber S)
given_back None es = (None, es)
given_back (Some serial) es = given_back_at serial es (subscriber_with serial es)
