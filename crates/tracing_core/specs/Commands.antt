-- What the commands of a hub leave and answer.
use Rattle.std.specs.Prelude.{◌≡◌, ℕ, ◌+◌, ◌==◌, nat_le, Bool, true, false, if◌then◌else◌, List, [], ◌∷◌, ◌++◌, Option, Some, None, Result}
use Rattle.std.specs.Prelude.{Ok, Err, length, slice_get}
use Rattle.tracing_core_fields.specs.PlainMetadata.{PlainMetadata, is_same_metadata}
use Rattle.tracing_core.specs.InterestsAndHints.{CallsiteAsked}
use Rattle.tracing_core_fields.specs.requests.Calls.{Asked, DispatchRegistered}
use Rattle.tracing_core.specs.Handles.{subscriber_with, changed, most}
use Rattle.tracing_core_fields.specs.requests.Interests.{PlainInterest}
use Rattle.tracing_core.specs.CacheRefresh.{Refreshed}
use Rattle.tracing_core_fields.specs.requests.Steady.{IsReal}
use Rattle.tracing_core.specs.Table.{Table, chosen, own_setting, effective}
use Rattle.tracing_core_moments.specs.declared.at.At.{At}
use Rattle.tracing_core.specs.declared.refusal.AddError.{AddError}
use Rattle.tracing_core.specs.declared.refusal.AddError.TheVariants as add
use Rattle.tracing_core.specs.declared.refusal.RegisterError.{RegisterError}
use Rattle.tracing_core.specs.declared.refusal.RegisterError.TheVariants as registering
use Rattle.tracing_core.specs.TableRows.{KeptCallsite, KeptSubscriber}
use Rattle.tracing_core_fields.specs.declared.requests.interest.InterestInner.TheVariants.{Never, Sometimes, Always}
use Rattle.tracing_core_fields.specs.declared.requests.subscriber.Subscriber.{Ghosts}
use Rattle.tracing_core_fields.specs.declared.requests.callsite.Callsite.{Ghosts as SiteGhosts}

abbrev pub is_at : {C : Type 0} → ℕ → KeptCallsite C → Bool
is_at identifier row = row.identifier == identifier

-- the callsite with the identifier
abbrev pub callsite_with : {C : Type 0} → ℕ → List (KeptCallsite C) → Option (KeptCallsite C)
callsite_with identifier [] = None
callsite_with identifier (row ∷ callsites) = if is_at identifier row then Some row else callsite_with identifier callsites

-- the number of the subscriber that a lane reaches
abbrev pub reached : {S C : Type 0} → Table S C → ℕ → Option ℕ
reached t lane = chosen (effective (own_setting (slice_get t.lanes lane)) t.global)

abbrev pub known_by : PlainInterest → Option Bool
known_by Never = Some false
known_by Sometimes = None
known_by Always = Some true

-- what is known without asking
abbrev pub known : ℕ → ℕ → PlainInterest → Option Bool
known greatest level interest = if nat_le level greatest then known_by interest else Some false

-- a subscriber with its first handle, which counts as lent until it is asked
abbrev pub living : {S : Type 0} → ℕ → S → KeptSubscriber S
living serial subscriber = record { serial = serial; handles = 1; lent = true; interests = []; hint = None; subscriber = subscriber }

abbrev pub becomes : {S : Type 0} → S → KeptSubscriber S → KeptSubscriber S
becomes subscriber e = record e { subscriber = subscriber }

-- a callsite as it comes
abbrev pub new_callsite : {C : Type 0} (h : SiteGhosts C) → C → KeptCallsite C
new_callsite h callsite = record {
  callsite = callsite;
  identifier = (h.metadata_of callsite).callsite;
  level =
      (h.metadata_of callsite).level;
  interest = Never;
}

-- nothing where the identifier isn't known, and the kept interest where its metadata is the same
abbrev pub kept_alike : {C : Type 0} → SiteGhosts C → PlainMetadata → Option (KeptCallsite C) → Option (Option PlainInterest)
kept_alike h metadata None = None
kept_alike h metadata (Some row) = Some (if is_same_metadata (h.metadata_of row.callsite) metadata then Some row.interest else None)

module _ {S : Type 0} (g : Ghosts S) where
  -- the subscriber was asked, where there is one
  abbrev pub AskGivesAt : PlainMetadata → At → ℕ → List (KeptSubscriber S) → Option (KeptSubscriber S) → Bool → List (KeptSubscriber S) →
      Type 0
  AskGivesAt m at serial es None answer fs = (answer ≡ false) × (fs ≡ es)
  AskGivesAt m at serial es (Some e) answer fs =
      (after : S) × g.answers e.subscriber m at answer × g.moves e.subscriber (Asked m at) answer after ×
      (fs ≡ changed serial (becomes after) es)

  abbrev pub AskGives : PlainMetadata → At → Option ℕ → List (KeptSubscriber S) → Bool → List (KeptSubscriber S) → Type 0
  AskGives m at None es answer fs = (answer ≡ false) × (fs ≡ es)
  AskGives m at (Some serial) es answer fs = AskGivesAt m at serial es (subscriber_with serial es) answer fs

  module _ {C : Type 0} (h : SiteGhosts C) where
    abbrev pub AddGives : Table S C → S → Result (Option ℕ) (AddError S) → Table S C → Type 0
    AddGives t s (Ok dispatch) u =
        (dispatch ≡ Some t.next)
        × ((z : S) × g.moves s (DispatchRegistered (Some t.next)) tt z ×
        Refreshed g h (record t { subscribers = t.subscribers ++ living t.next z ∷ []; next = t.next + 1 }) u)
    AddGives t s (Err (add.NumbersSpent back)) u = (t.next ≡ most) × (back ≡ s) × (u ≡ t)
    AddGives t s (Err (add.OutOfMemory back)) u = ¬ (t.next ≡ most) × (back ≡ s) × (u ≡ t)

    -- all were asked of a callsite that wasn't known, and it is kept; its level is one of the five
    pub record Registered (t : Table S C) (callsite : C) (interest : PlainInterest) (u : Table S C) : Type 0 where
      pub real : IsReal (h.metadata_of callsite)
      pub unknown : callsite_with (h.metadata_of callsite).callsite t.callsites ≡ None
      pub row : KeptCallsite C
      pub asked : CallsiteAsked g h true (length t.callsites) t.subscribers (new_callsite h callsite) row u.subscribers
      pub told : interest ≡ row.interest
      pub kept : u ≡ record t { subscribers = u.subscribers; callsites = t.callsites ++ row ∷ [] }

    -- a callsite whose identifier isn't known is taken, where there is memory for it
    abbrev pub TakeGives : Table S C → C → Result PlainInterest (RegisterError C) → Table S C → Type 0
    TakeGives t callsite (Ok interest) u = Registered t callsite interest u
    TakeGives t callsite (Err (registering.Taken back)) u = ⊥
    TakeGives t callsite (Err (registering.OutOfMemory back)) u = (back ≡ callsite) × (u ≡ t)

    abbrev pub RegisterGivesAt : Table S C → C → Option (Option PlainInterest) → Result PlainInterest (RegisterError C) → Table S C → Type 0
    RegisterGivesAt t callsite None result u = TakeGives t callsite result u
    RegisterGivesAt t callsite (Some None) result u = (result ≡ Err (registering.Taken callsite)) × (u ≡ t)
    RegisterGivesAt t callsite (Some (Some interest)) result u = (result ≡ Ok interest) × (u ≡ t)

    -- a known callsite with the same metadata counts as this one; with other metadata the identifier is taken
    abbrev pub RegisterGives : Table S C → C → Result PlainInterest (RegisterError C) → Table S C → Type 0
    RegisterGives t callsite result u =
        RegisterGivesAt t callsite (kept_alike h (h.metadata_of callsite) (callsite_with (h.metadata_of callsite).callsite t.callsites))
        result u

    -- where somebody is reached, what is known is answered, else it is asked; where nobody is, nothing is wanted
    abbrev pub AnswerGives : KeptCallsite C → At → Option Bool → Option ℕ → List (KeptSubscriber S) → Bool → List (KeptSubscriber S) →
        Type 0
    AnswerGives row at known None es result fs = (result ≡ false) × (fs ≡ es)
    AnswerGives row at (Some answer) (Some serial) es result fs = (result ≡ answer) × (fs ≡ es)
    AnswerGives row at None (Some serial) es result fs = AskGives (h.metadata_of row.callsite) at (Some serial) es result fs

    abbrev pub GateGivesAt : Table S C → Option (KeptCallsite C) → At → Option Bool → Table S C → Type 0
    GateGivesAt t None at result u = (result ≡ None) × (u ≡ t)
    GateGivesAt t (Some row) at result u =
        ((answer : Bool) × (result ≡ Some answer)
        × AnswerGives row at (known t.greatest row.level row.interest) (reached t at.lane) t.subscribers answer u.subscribers)
        × (u ≡ record t { subscribers = u.subscribers })

    abbrev pub GateGives : Table S C → ℕ → At → Option Bool → Table S C → Type 0
    GateGives t identifier at result u = GateGivesAt t (callsite_with identifier t.callsites) at result u
