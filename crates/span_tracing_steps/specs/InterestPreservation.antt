-- What is kept of the interest in callsites stays right of each stack.
use Rattle.std.specs.Prelude.{ℕ, Bool, Result, Ok}
use Rattle.tracing_core_fields.specs.PlainMetadata.{PlainMetadata}
use Rattle.tracing_core_fields.specs.requests.Interests.{PlainInterest}
use Rattle.tracing_core_fields.specs.declared.requests.subscriber.Subscriber.{Ghosts}
use Rattle.span_registry_layers_store.specs.Registries.{RegistryValue}
use Rattle.span_tracing_skeleton.specs.PlainData.{AnyStep}
use Rattle.span_tracing_skeleton.specs.declared.call.Reply.{Reply}
use Rattle.span_tracing_skeleton.specs.declared.queue_call.QueueCall.{QueueCall}
use Rattle.span_tracing_skeleton.specs.declared.refusal.Refusal.{Refusal}
use Rattle.span_tracing_skeleton.specs.declared.setting.Setting.{Setting}
use Rattle.span_tracing_steps.specs.AnySteps.{AnyStepGives}
use Rattle.span_tracing_steps.specs.Interests.{KeepsWord}
use Rattle.span_tracing_steps.specs.Setup.{AddGives, RegisterGives}
use Rattle.span_tracing_steps.specs.States.{StateValue, new_state}

-- of a new trace, after a consistent stack was added, after a callsite was registered, and after each step, also one on a sink's queue
pub record CacheStaysValid {T : Type 0} (g : Ghosts T) (registry_of : T → RegistryValue) (outputs_in sinks_in : T → ℕ)
    (set : T → ℕ → Setting → T) (drives : T → ℕ → QueueCall → Reply → T → Type 0) (holds : T → Bool) : Type 0 where
  pub new : KeepsWord g new_state
  pub added : (v : StateValue T) (x : T) (handle : ℕ) (w : StateValue T) → KeepsWord g v → g.steady x →
      AddGives g outputs_in sinks_in v x (Ok handle) w → KeepsWord g w
  pub registered : (v : StateValue T) (m : PlainMetadata) (r : Result PlainInterest Refusal) (w : StateValue T) → KeepsWord g v →
      RegisterGives g v m r w → KeepsWord g w
  pub stepped : (v : StateValue T) (step : AnyStep) (reply : Reply) (w : StateValue T) → KeepsWord g v →
      AnyStepGives g registry_of set drives holds v step reply w → KeepsWord g w
