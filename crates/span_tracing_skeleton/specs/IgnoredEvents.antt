-- Events that leave a subscriber as it is.
use Rattle.std.specs.Prelude.{◌≡◌, ℕ, None, Ok}
use Rattle.tracing_core_fields.specs.requests.Calls.{EventDispatched}
use Rattle.tracing_core_fields.specs.requests.PlainRequests.{PlainEvent, explicit_parent}
use Rattle.tracing_core_moments.specs.declared.at.At.{At}
use Rattle.tracing_core_fields.specs.declared.requests.subscriber.Subscriber.{Ghosts}

-- an event of this level that names no parent may be taken, and leave all as it was
abbrev pub Ignores : {T : Type 0} → Ghosts T → T → ℕ → Type 0
Ignores g x level = (e : PlainEvent) (at : At) → e.metadata.level ≡ level → explicit_parent e.parent ≡ None →
    g.moves x (EventDispatched e at) (Ok tt) x
