-- Where a callsite stands among those that are registered.
use Rattle.std.specs.Prelude.{◌≡◌, ℕ, suc, ◌==◌, true, if◌then◌else◌, List, [], ◌∷◌, ◌++◌, length, Option, Some, None, Result, Ok, Err}
use Rattle.std.specs.Option.{option_map}
use Rattle.tracing_core_fields.specs.requests.Interests.{PlainInterest}
use Rattle.tracing_core_fields.specs.requests.Steady.{IsReal}
use Rattle.tracing_core_fields.specs.declared.requests.callsite.Callsite.{Ghosts as SiteGhosts}
use Rattle.tracing_core_fields.specs.declared.requests.subscriber.Subscriber.{Ghosts}
use Rattle.tracing_core.specs.InterestsAndHints.{CallsiteAsked}
use Rattle.tracing_core.specs.Commands.{new_callsite}
use Rattle.tracing_core.specs.HubInvariant.{identifiers}
use Rattle.tracing_core.specs.TableRows.{KeptCallsite, KeptSubscriber}

-- the index of the first of the numbers that is this one
abbrev pub index_among : ℕ → List ℕ → Option ℕ
index_among n [] = None
index_among n (m ∷ ms) = if m == n then Some 0 else option_map suc (index_among n ms)

-- the index of the callsite with the identifier, in order of registration
abbrev pub index_of_callsite : {C : Type 0} → ℕ → List (KeptCallsite C) → Option ℕ
index_of_callsite n callsites = index_among n (identifiers callsites)

-- a callsite, whose level is one of the five, was asked of and stands behind the others; or there was no memory and
-- nothing changed
abbrev pub TakesCallsite : {S C : Type 0} → Ghosts S → SiteGhosts C → List (KeptCallsite C) → List (KeptSubscriber S) → C →
    Result PlainInterest C → List (KeptCallsite C) → List (KeptSubscriber S) → Type 0
TakesCallsite {C = C} g h callsites es callsite (Ok interest) later fs =
    IsReal (h.metadata_of callsite) × (row : KeptCallsite C) × CallsiteAsked g h true (length callsites) es (new_callsite h callsite) row fs ×
    (interest ≡ row.interest) × (later ≡ callsites ++ row ∷ [])
TakesCallsite g h callsites es callsite (Err back) later fs = (back ≡ callsite) × (later ≡ callsites) × (fs ≡ es)
