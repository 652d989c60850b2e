-- What a command leaves of what a hub knows.
use Rattle.std.specs.Prelude.{◌≡◌, ◌<◌, ◌≤◌, ◌⊎◌, ℕ, Bool, true, false, Some, None}
use Rattle.tracing_core.specs.Handles.{subscriber_with}
use Rattle.tracing_core_fields.specs.requests.Lists.{Every}
use Rattle.tracing_core.specs.ValidCaches.{HasValidCache}
use Rattle.tracing_core.specs.HubInvariant.{IsSound}
use Rattle.tracing_core.specs.Table.{Table}
use Rattle.tracing_core_fields.specs.declared.requests.callsite.Callsite.{Ghosts as SiteGhosts}
use Rattle.tracing_core.specs.TableRows.{KeptCallsite, KeptSubscriber}
use Rattle.tracing_core_fields.specs.declared.requests.interest.InterestInner.TheVariants.{Never}
use Rattle.tracing_core_fields.specs.declared.requests.subscriber.Subscriber.{Ghosts}

abbrev pub IsNever : {C : Type 0} → KeptCallsite C → Type 0
IsNever row = row.interest ≡ Never

-- no level is let through, and nobody is interested in any callsite
abbrev pub IsOff : {S C : Type 0} → Table S C → Type 0
IsOff t = (t.greatest ≡ 0) × Every IsNever t.callsites

-- no number comes back: who is gone stays gone
pub record IsLater {S C : Type 0} (t u : Table S C) : Type 0 where
  pub next : t.next ≤ u.next
  pub gone : (n : ℕ) → n < t.next → subscriber_with n t.subscribers ≡ None → subscriber_with n u.subscribers ≡ None

module _ {S C : Type 0} (g : Ghosts S) (h : SiteGhosts C) where
  -- what is kept is right of the subscriber with the number of this one
  abbrev pub StaysRight : Table S C → KeptSubscriber S → Type 0
  StaysRight u e = (f : KeptSubscriber S) × (f.serial ≡ e.serial) × HasValidCache g h u f

  -- the table stays sound, and what is kept stays right of everyone of whom it was right
  pub record PreservesCaches (t u : Table S C) : Type 0 where
    pub sound : IsSound h t → IsSound h u
    pub later : IsSound h t → IsLater t u
    pub right_of : (e : KeptSubscriber S) → HasValidCache g h t e → StaysRight u e

  -- the table stays sound, and what is kept stays right of those who live on
  pub record PreservesLivingCaches (t u : Table S C) : Type 0 where
    pub sound : IsSound h t → IsSound h u
    pub later : IsSound h t → IsLater t u
    pub right_of : IsSound h t → (e : KeptSubscriber S) → HasValidCache g h t e → (subscriber_with e.serial u.subscribers ≡ None) ⊎
        StaysRight u e

  -- the table stays sound, and what is kept stays right of those who live on and aren't lent
  pub record PreservesUnlentCaches (t u : Table S C) : Type 0 where
    pub sound : IsSound h t → IsSound h u
    pub right_of : IsSound h t → (e f : KeptSubscriber S) → HasValidCache g h t e → subscriber_with e.serial u.subscribers ≡ Some f →
        f.lent ≡ false → HasValidCache g h u f

  -- by whether something may be given up
  abbrev pub PreservesCachesBy : Bool → Table S C → Table S C → Type 0
  PreservesCachesBy true t u = PreservesLivingCaches t u
  PreservesCachesBy false t u = PreservesCaches t u
