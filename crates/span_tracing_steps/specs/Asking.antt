-- What is left where each stack is asked anew.
use Rattle.std.specs.Prelude.{◌≡◌}
use Rattle.tracing_core_fields.specs.declared.requests.subscriber.Subscriber.{Ghosts}
use Rattle.tracing_core.specs.CacheRefresh.{Rebuilt}
use Rattle.span_tracing_steps.specs.States.{StateValue}
use Rattle.span_tracing_steps.specs.contracts.callsite.TraceCallsiteCallsite.TheImpl.{ghosts}

-- each stack is asked of each callsite and for its hint, and all else stays
abbrev pub AsksAnew : {T : Type 0} → Ghosts T → StateValue T → StateValue T → Type 0
AsksAnew g v w = Rebuilt g ghosts v.hub w.hub × (w ≡ record v { hub = w.hub })
