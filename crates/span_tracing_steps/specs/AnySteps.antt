-- Any step: one on the trace, which waits while a line is held, or a call on the queue of a sink.
use Rattle.std.specs.Prelude.{◌≡◌, ◌⊎◌, ◌||◌, ℕ, Bool, true, false, List, [], ◌∷◌, Option, Some, None}
use Rattle.tracing_core_fields.specs.declared.requests.subscriber.Subscriber.{Ghosts}
use Rattle.tracing_core.specs.TableRows.{KeptSubscriber}
use Rattle.span_registry_layers_store.specs.Registries.{RegistryValue}
use Rattle.span_tracing_skeleton.specs.PlainData.{AnyStep, OfQueue, OfTrace}
use Rattle.span_tracing_skeleton.specs.declared.call.Reply.{Reply}
use Rattle.span_tracing_skeleton.specs.declared.call.Reply.TheVariants.{Refused}
use Rattle.span_tracing_skeleton.specs.declared.queue_call.QueueCall.{QueueCall}
use Rattle.span_tracing_skeleton.specs.declared.refusal.Refusal.TheVariants.{Busy}
use Rattle.span_tracing_skeleton.specs.declared.setting.Setting.{Setting}
use Rattle.span_tracing_steps.specs.SinkCalls.{DriveGives}
use Rattle.span_tracing_steps.specs.States.{StateValue}
use Rattle.span_tracing_steps.specs.Steps.{StepGives}

module _ {T : Type 0} (holds : T → Bool) where
  -- whether a line is held in one of the stacks that somebody holds
  abbrev pub some_lives : List (KeptSubscriber T) → Bool
  some_lives [] = false
  some_lives (e ∷ es) = holds e.subscriber || some_lives es

  -- whether one is held in one of the stacks that wait to be taken
  abbrev pub some_waits : List (Option T) → Bool
  some_waits [] = false
  some_waits (None ∷ stacks) = some_waits stacks
  some_waits (Some x ∷ stacks) = holds x || some_waits stacks

  -- whether a line is held beside the queue of a sink, whose stack may have been released, but not taken
  abbrev pub holds_in : StateValue T → Bool
  holds_in v = some_lives v.hub.subscribers || some_waits v.retired

-- whether a step has to wait, where a line is held or not: calls on queues go on
abbrev pub must_wait : Bool → AnyStep → Bool
must_wait held (OfTrace step) = held
must_wait held (OfQueue ask) = false

module _ {T : Type 0} (g : Ghosts T) (registry_of : T → RegistryValue) (set : T → ℕ → Setting → T)
    (drives : T → ℕ → QueueCall → Reply → T → Type 0) where
  -- a step that doesn't have to wait
  abbrev pub ActGives : StateValue T → AnyStep → Reply → StateValue T → Type 0
  ActGives v (OfTrace step) reply w = StepGives g registry_of set v step reply w
  ActGives v (OfQueue ask) reply w = DriveGives drives v ask.sink ask.call reply w

module _ {T : Type 0} (g : Ghosts T) (registry_of : T → RegistryValue) (set : T → ℕ → Setting → T)
    (drives : T → ℕ → QueueCall → Reply → T → Type 0) (holds : T → Bool) where
  -- While a line is held, each step but the calls on queues is refused, whatever it is, and changes nothing.
  abbrev pub AnyStepGives : StateValue T → AnyStep → Reply → StateValue T → Type 0
  AnyStepGives v (OfTrace step) reply w =
      ((holds_in holds v ≡ true) × (reply ≡ Refused Busy) × (w ≡ v)) ⊎
      ((holds_in holds v ≡ false) × StepGives g registry_of set v step reply w)
  AnyStepGives v (OfQueue ask) reply w = DriveGives drives v ask.sink ask.call reply w
