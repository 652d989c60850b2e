-- Runs of steps, on either road.
use Rattle.std.specs.Prelude.{◌≡◌, ℕ, Bool, List, [], ◌∷◌}
use Rattle.tracing_core_fields.specs.declared.requests.subscriber.Subscriber.{Ghosts}
use Rattle.span_registry_layers_store.specs.Registries.{RegistryValue}
use Rattle.span_tracing_skeleton.specs.PlainData.{AnyStep}
use Rattle.span_tracing_skeleton.specs.declared.call.Reply.{Reply}
use Rattle.span_tracing_skeleton.specs.declared.queue_call.QueueCall.{QueueCall}
use Rattle.span_tracing_skeleton.specs.declared.setting.Setting.{Setting}
use Rattle.span_tracing_steps.specs.AnySteps.{AnyStepGives}
use Rattle.span_tracing_steps.specs.Asking.{AsksAnew}
use Rattle.span_tracing_steps.specs.States.{StateValue}

-- The two roads of a run: by what is kept of filters' answers, or with each stack asked anew before each step.
pub data Road : Type 0 where
  Caching : Road
  Asking : Road

module _ {T : Type 0} (g : Ghosts T) (registry_of : T → RegistryValue) (set : T → ℕ → Setting → T)
    (drives : T → ℕ → QueueCall → Reply → T → Type 0) (holds : T → Bool) where
  -- a step as it is given, on the road that asks once each stack was asked anew
  abbrev pub StepBy : Road → StateValue T → AnyStep → Reply → StateValue T → Type 0
  StepBy Caching v step reply w = AnyStepGives g registry_of set drives holds v step reply w
  StepBy Asking v step reply w = (start : StateValue T) × AsksAnew g v start ×
      AnyStepGives g registry_of set drives holds start step reply w

  -- steps in order
  abbrev pub RunGives : Road → StateValue T → List AnyStep → List Reply → StateValue T → Type 0
  RunGives road v [] [] w = w ≡ v
  RunGives road v [] (reply ∷ replies) w = ⊥
  RunGives road v (step ∷ steps) [] w = ⊥
  RunGives road v (step ∷ steps) (reply ∷ replies) w = (mid : StateValue T) × StepBy road v step reply mid ×
      RunGives road mid steps replies w
