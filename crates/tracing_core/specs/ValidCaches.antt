-- What a hub still knows of a subscriber that is consistent.
use Rattle.tracing_core_fields.specs.requests.Lists.{Every}
use Rattle.std.specs.Prelude.{◌≡◌, ◌+◌, ◌≤◌, ℕ, false, slice_get, List, [], ◌∷◌, Option, Some}
use Rattle.tracing_core.specs.InterestsAndHints.{level_of}
use Rattle.tracing_core.specs.Handles.{subscriber_with}
use Rattle.tracing_core_fields.specs.requests.Interests.{PlainInterest, Covers}
use Rattle.tracing_core_fields.specs.requests.Steady.{IsReal}
use Rattle.tracing_core.specs.Table.{Table}
use Rattle.tracing_core_fields.specs.declared.requests.callsite.Callsite.{Ghosts as SiteGhosts}
use Rattle.tracing_core.specs.TableRows.{KeptCallsite, KeptSubscriber}
use Rattle.tracing_core_fields.specs.declared.requests.subscriber.Subscriber.{Ghosts}

-- the level and the identifier that are kept are the callsite's, and the level is one of the five
abbrev pub IsTrueCallsite : {C : Type 0} → SiteGhosts C → KeptCallsite C → Type 0
IsTrueCallsite h row =
    (row.level ≡ (h.metadata_of row.callsite).level) × IsReal (h.metadata_of row.callsite)
    × (row.identifier ≡ (h.metadata_of row.callsite).callsite)

-- not lent any more, with another value of the subscriber, and other kept answers
abbrev pub asked_anew : {S : Type 0} → S → List PlainInterest → Option (Option ℕ) → KeptSubscriber S → KeptSubscriber S
asked_anew subscriber interests hint e = record e { lent = false; interests = interests; hint = hint; subscriber = subscriber }

module _ {S : Type 0} (g : Ghosts S) where
  -- the hint that is kept, if one is, is the subscriber's
  abbrev pub HintRight : S → Option (Option ℕ) → Type 0
  HintRight s hint = (top : Option ℕ) → hint ≡ Some top → top ≡ g.hint s

  module _ {C : Type 0} (h : SiteGhosts C) where
    -- what is kept of the callsite is right of the subscriber
    abbrev pub CallsiteRight : S → KeptCallsite C → Type 0
    CallsiteRight s row = (own : PlainInterest) × g.says s (h.metadata_of row.callsite) own × Covers row.interest own

    -- this is what the subscriber says of the callsite, and what is kept of that covers it
    abbrev pub AnswerRight : S → KeptCallsite C → PlainInterest → Type 0
    AnswerRight s row k = g.says s (h.metadata_of row.callsite) k × Covers row.interest k

    -- the answers that are kept of the callsites, of which the first stands at the index, are right of the subscriber
    abbrev pub AnswersRight : ℕ → S → List PlainInterest → List (KeptCallsite C) → Type 0
    AnswersRight index s interests [] = Unit {0}
    AnswersRight index s interests (row ∷ rows) =
        ((k : PlainInterest) → slice_get interests index ≡ Some k → AnswerRight s row k) × AnswersRight (index + 1) s interests rows

    -- the subscriber lives, isn't lent and is consistent, and what is kept is right of it
    pub record HasValidCache (t : Table S C) (e : KeptSubscriber S) : Type 0 where
      pub stands : subscriber_with e.serial t.subscribers ≡ Some e
      pub unlent : e.lent ≡ false
      pub steady : g.steady e.subscriber
      pub callsites : Every (IsTrueCallsite h) t.callsites
      pub right : Every (CallsiteRight e.subscriber) t.callsites
      pub below : level_of (g.hint e.subscriber) ≤ t.greatest
      -- its kept answers are its own
      pub kept : AnswersRight 0 e.subscriber e.interests t.callsites
      pub hint : HintRight e.subscriber e.hint
