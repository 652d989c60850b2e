-- What is kept of the interest in callsites.
use Rattle.std.specs.Prelude.{◌≡◌, ℕ, Bool, true, false, List, Option, Some, None, slice_get}
use Rattle.tracing_core_fields.specs.requests.Interests.{PlainInterest}
use Rattle.tracing_core_fields.specs.declared.requests.interest.InterestInner.TheVariants.{Never, Sometimes, Always}
use Rattle.tracing_core_fields.specs.declared.requests.subscriber.Subscriber.{Ghosts}
use Rattle.tracing_core.specs.Handles.{subscriber_with}
use Rattle.tracing_core.specs.HubInvariant.{IsSound as IsSoundHub}
use Rattle.tracing_core.specs.TableRows.{KeptCallsite, KeptSubscriber}
use Rattle.tracing_core.specs.ValidCaches.{HasValidCache}
use Rattle.tracing_core.specs.declared.hub.index.CallsiteIndex.{CallsiteIndex}
use Rattle.span_tracing_steps.specs.States.{StateValue}
use Rattle.span_tracing_steps.specs.contracts.callsite.TraceCallsiteCallsite.TheImpl.{ghosts}
use Rattle.span_tracing_steps.specs.declared.callsite.TraceCallsite.{TraceCallsite}

abbrev pub is_interest_never : PlainInterest → Bool
is_interest_never Never = true
is_interest_never Sometimes = false
is_interest_never Always = false

abbrev pub is_never : Option (KeptCallsite TraceCallsite) → Bool
is_never None = false
is_never (Some row) = is_interest_never row.interest

-- of the callsite at an index it is kept that nobody is interested in it
abbrev pub is_off_at : List (KeptCallsite TraceCallsite) → CallsiteIndex → Bool
is_off_at callsites index = is_never (slice_get callsites index.0)

module _ {T : Type 0} (g : Ghosts T) where
  -- the hub is sound, and what is kept of the interest in callsites is right of each stack, which is consistent
  pub record KeepsWord (v : StateValue T) : Type 0 where
    pub sound : IsSoundHub ghosts v.hub
    pub valid : (number : ℕ) (e : KeptSubscriber T) → subscriber_with number v.hub.subscribers ≡ Some e → HasValidCache g ghosts v.hub e
