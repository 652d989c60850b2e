-- Steps that wait, and those that don't.
use Rattle.std.proofs.Common.{◌≡◌, ◌∙◌, ℕ, Bool, true, false, inl, inr, refl, sym}
use Rattle.tracing_core_fields.specs.declared.requests.subscriber.Subscriber.{Ghosts}
use Rattle.span_registry_layers_store.specs.Registries.{RegistryValue}
use Rattle.span_tracing_skeleton.specs.PlainData.{AnyStep, OfQueue, OfTrace}
use Rattle.span_tracing_skeleton.specs.declared.call.Reply.{Reply}
use Rattle.span_tracing_skeleton.specs.declared.call.Reply.TheVariants.{Refused}
use Rattle.span_tracing_skeleton.specs.declared.queue_call.QueueCall.{QueueCall}
use Rattle.span_tracing_skeleton.specs.declared.refusal.Refusal.TheVariants.{Busy}
use Rattle.span_tracing_skeleton.specs.declared.setting.Setting.{Setting}
use Rattle.span_tracing_steps.specs.AnySteps.{ActGives, AnyStepGives, holds_in, must_wait}
use Rattle.span_tracing_steps.specs.States.{StateValue}

module _ {T : Type 0} (g : Ghosts T) (registry_of : T → RegistryValue) (set : T → ℕ → Setting → T)
    (drives : T → ℕ → QueueCall → Reply → T → Type 0) (holds : T → Bool) where
  pub any_waits : (v : StateValue T) (step : AnyStep) (b : Bool) → b ≡ must_wait (holds_in holds v) step → b ≡ true →
      AnyStepGives g registry_of set drives holds v step (Refused Busy) v
  any_waits v (OfTrace step) b held is = inl (sym held ∙ is, refl, refl)
  any_waits v (OfQueue ask) b held is = absurd (let clash : true ≡ false = sym is ∙ held in cc)

  pub any_goes : (v : StateValue T) (step : AnyStep) (reply : Reply) (w : StateValue T) (b : Bool) →
      b ≡ must_wait (holds_in holds v) step → b ≡ false → ActGives g registry_of set drives v step reply w →
      AnyStepGives g registry_of set drives holds v step reply w
  any_goes v (OfTrace step) reply w b held is gives = inr (sym held ∙ is, gives)
  any_goes v (OfQueue ask) reply w b held is gives = gives
