-- Requests that are handed to the subscriber of a handle.
use Rattle.std.specs.Prelude.{◌≡◌, ℕ, List, Option, Some, None}
use Rattle.tracing_core_fields.specs.requests.Calls.{Call, ReplyTo}
use Rattle.tracing_core.specs.Commands.{becomes}
use Rattle.tracing_core.specs.HandleSubscribers.{living_of, living_changed}
use Rattle.tracing_core_fields.specs.requests.NoReplies.{no_reply}
use Rattle.tracing_core.specs.Table.{Table}
use Rattle.tracing_core.specs.TableRows.{KeptSubscriber}
use Rattle.tracing_core_fields.specs.declared.requests.subscriber.Subscriber.{Ghosts}

module _ {S : Type 0} (g : Ghosts S) where
  abbrev pub CallGivesAt : (c : Call) → Option ℕ → List (KeptSubscriber S) → Option (KeptSubscriber S) → ReplyTo c →
      List (KeptSubscriber S) → Type 0
  CallGivesAt c dispatch es None reply fs = (reply ≡ no_reply c) × (fs ≡ es)
  CallGivesAt c dispatch es (Some e) reply fs =
      (after : S) × g.moves e.subscriber c reply after × (fs ≡ living_changed dispatch (becomes after) es)

  -- the subscriber of the handle took the call; where there is none, the answer is that of the subscriber that wants nothing
  abbrev pub CallGives : (c : Call) → Option ℕ → List (KeptSubscriber S) → ReplyTo c → List (KeptSubscriber S) → Type 0
  CallGives c dispatch es reply fs = CallGivesAt c dispatch es (living_of dispatch es) reply fs

  -- a call through a hub
  abbrev pub HubGives : {C : Type 0} → (c : Call) → Option ℕ → Table S C → ReplyTo c → Table S C → Type 0
  HubGives c dispatch t reply u = CallGives c dispatch t.subscribers reply u.subscribers × (u ≡ record t { subscribers = u.subscribers })
