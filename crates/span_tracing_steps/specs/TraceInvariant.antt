-- What is true of the parts of each trace.
use Rattle.std.specs.Prelude.{◌≡◌, length}
use Rattle.tracing_core_fields.specs.requests.Lists.{Every}
use Rattle.tracing_core.specs.HubInvariant.{IsSound as IsSoundHub}
use Rattle.tracing_core.specs.declared.hub.parts.Lane.{Lane}
use Rattle.tracing_core.specs.declared.hub.parts.Lane.TheVariants.{Ended, Running}
use Rattle.span_tracing_steps.specs.contracts.callsite.TraceCallsiteCallsite.TheImpl.{ghosts}
use Rattle.span_tracing_steps.specs.declared.parts.TraceParts.{TraceParts}

abbrev pub Runs : Lane → Type 0
Runs Ended = ⊥
Runs (Running own) = Unit {0}

-- the hub is sound, each lane has its thread and runs, and each stack that was given has a place to wait in
pub record IsSound {T : Type 0} (p : TraceParts T) : Type 0 where
  pub hub : IsSoundHub ghosts p.hub
  pub lanes : length p.threads.items ≡ length p.hub.lanes
  pub running : Every Runs p.hub.lanes
  pub given : length p.retired.items ≡ p.hub.next
