-- Asking subscribers of callsites and for their hints, in order.
use Rattle.std.specs.Prelude.{◌≡◌, ◌+◌, ◌⊎◌, ℕ, Bool, true, false, max, slice_get, List, [], ◌∷◌, Option, Some, None}
use Rattle.tracing_core_fields.specs.PlainMetadata.{PlainMetadata}
use Rattle.tracing_core_fields.specs.requests.Calls.{CallsiteRegistered, HintAsked}
use Rattle.tracing_core_fields.specs.requests.Interests.{PlainInterest, joined, settled}
use Rattle.tracing_core.specs.TableRows.{KeptCallsite, KeptSubscriber}
use Rattle.tracing_core_fields.specs.declared.requests.subscriber.Subscriber.{Ghosts}
use Rattle.tracing_core_fields.specs.declared.requests.callsite.Callsite.{Ghosts as SiteGhosts}

-- each element in turn becomes another, and what is gathered goes on from one to the next
abbrev pub Each : {K A : Type 0} → (K → A → A → K → Type 0) → K → List A → List A → K → Type 0
Each R k [] [] last = last ≡ k
Each R k [] (y ∷ ys) last = ⊥
Each R k (x ∷ xs) [] last = ⊥
Each {K = K} R k (x ∷ xs) (y ∷ ys) last = (j : K) × R k x y j × Each R j xs ys last

-- an absent hint counts as the most verbose level
abbrev pub level_of : Option ℕ → ℕ
level_of None = 5
level_of (Some level) = level

-- with another value of the subscriber, and other kept answers of callsites
abbrev pub heard : {S : Type 0} → S → List PlainInterest → KeptSubscriber S → KeptSubscriber S
heard subscriber interests e = record e { interests = interests; subscriber = subscriber }

-- the answer of the callsite at the index is kept, or for lack of memory none, and the others stay
abbrev pub Keeps : ℕ → PlainInterest → List PlainInterest → List PlainInterest → Type 0
Keeps index k before after =
    ((other : ℕ) → ¬ (other ≡ index) → slice_get after other ≡ slice_get before other)
    × ((slice_get after index ≡ Some k) ⊎ (slice_get after index ≡ None))

module _ {S : Type 0} (g : Ghosts S) where
  -- it was asked of the callsite at the index, and gave this answer, which is kept
  abbrev pub Answers : PlainMetadata → ℕ → PlainInterest → KeptSubscriber S → KeptSubscriber S → Type 0
  Answers m index k e f =
      g.says e.subscriber m k × g.moves e.subscriber (CallsiteRegistered m) k f.subscriber × (f ≡ heard f.subscriber f.interests e)
      × Keeps index k e.interests f.interests

  -- it was asked of the callsite at the index before and not lent since, and this is its kept answer
  abbrev pub Answered : ℕ → PlainInterest → KeptSubscriber S → KeptSubscriber S → Type 0
  Answered index k e f = (e.lent ≡ false) × (f ≡ e) × (slice_get e.interests index ≡ Some k)

  -- by whether all are asked: its answer, of now or before
  abbrev pub Gives : Bool → PlainMetadata → ℕ → PlainInterest → KeptSubscriber S → KeptSubscriber S → Type 0
  Gives true m index k e f = Answers m index k e f
  Gives false m index k e f = Answers m index k e f ⊎ Answered index k e f

  -- its answer joined those of the others
  abbrev pub Joins : Bool → PlainMetadata → ℕ → Option PlainInterest → KeptSubscriber S → KeptSubscriber S → Option PlainInterest → Type 0
  Joins all m index before e f after = (k : PlainInterest) × Gives all m index k e f × (after ≡ joined before k)

  -- all gave their answers of the callsite at the index, in order, and this is their common interest
  abbrev pub InCommon : Bool → PlainMetadata → ℕ → List (KeptSubscriber S) → List (KeptSubscriber S) → PlainInterest → Type 0
  InCommon all m index es fs k = (o : Option PlainInterest) × Each (Joins all m index) None es fs o × (k ≡ settled o)

  -- it was asked for its hint, gave this, which is kept, and counts as not lent from then on
  abbrev pub Tells : Option ℕ → KeptSubscriber S → KeptSubscriber S → Type 0
  Tells top e f =
      (top ≡ g.hint e.subscriber) × g.moves e.subscriber HintAsked (g.hint e.subscriber) f.subscriber
      × (f ≡ record e { lent = false; hint = Some top; subscriber = f.subscriber })

  -- it was asked before and not lent since, and this is its kept hint
  abbrev pub Told : Option ℕ → KeptSubscriber S → KeptSubscriber S → Type 0
  Told top e f = (e.lent ≡ false) × (f ≡ e) × (e.hint ≡ Some top)

  -- by whether all are asked: its hint, of now or before
  abbrev pub GivesHint : Bool → Option ℕ → KeptSubscriber S → KeptSubscriber S → Type 0
  GivesHint true top e f = Tells top e f
  GivesHint false top e f = Tells top e f ⊎ Told top e f

  -- the greatest level grew to its hint
  abbrev pub Raises : Bool → ℕ → KeptSubscriber S → KeptSubscriber S → ℕ → Type 0
  Raises all before e f after = (top : Option ℕ) × GivesHint all top e f × (after ≡ max before (level_of top))

  module _ {C : Type 0} (h : SiteGhosts C) where
    -- the callsite of the row, which stands at the index, was told the common interest of all answers
    abbrev pub CallsiteAsked : Bool → ℕ → List (KeptSubscriber S) → KeptCallsite C → KeptCallsite C → List (KeptSubscriber S) → Type 0
    CallsiteAsked all index es row later fs =
        InCommon all (h.metadata_of row.callsite) index es fs later.interest
        × (h.metadata_of later.callsite ≡ h.metadata_of row.callsite) × (h.interest_of later.callsite ≡ later.interest)
        × (later ≡ record row { callsite = later.callsite; interest = later.interest })

    -- the same in turn, where each row stands behind the one before
    abbrev pub RowAsked : Bool → ℕ × List (KeptSubscriber S) → KeptCallsite C → KeptCallsite C → ℕ × List (KeptSubscriber S) → Type 0
    RowAsked all before row later after = (after.0 ≡ before.0 + 1) × CallsiteAsked all before.0 before.1 row later after.1

    -- all gave their answers of each callsite, in order
    abbrev pub CallsitesAsked : Bool → List (KeptSubscriber S) → List (KeptCallsite C) → List (KeptCallsite C) → List (KeptSubscriber S) →
        Type 0
    CallsitesAsked all es rows laters fs = (count : ℕ) × Each (RowAsked all) (0, es) rows laters (count, fs)
