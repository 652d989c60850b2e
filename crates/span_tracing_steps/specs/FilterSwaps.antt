-- What is left where the filter of an output and another one change places.
use Rattle.std.specs.Prelude.{◌≡◌, ℕ, Option, Some, None}
use Rattle.tracing_core_fields.specs.declared.requests.subscriber.Subscriber.{Ghosts}
use Rattle.tracing_core.specs.CacheRefresh.{Refreshed}
use Rattle.tracing_core.specs.HandleSubscribers.{lent_to}
use Rattle.tracing_core.specs.Table.{Table}
use Rattle.span_registry_layers_store.specs.Registries.{RegistryValue}
use Rattle.span_tracing_skeleton.specs.Looking.{output_at}
use Rattle.span_tracing_skeleton.specs.Refusing.{output_refusal}
use Rattle.span_tracing_skeleton.specs.declared.call.Reply.{Reply}
use Rattle.span_tracing_skeleton.specs.declared.call.Reply.TheVariants.{Done, Refused}
use Rattle.span_tracing_skeleton.specs.declared.refusal.Refusal.{Refusal}
use Rattle.span_tracing_skeleton.specs.declared.setting.OutputPlace.{OutputPlace}
use Rattle.span_tracing_steps.specs.States.{StateValue, held_in, skeleton_of}
use Rattle.span_tracing_steps.specs.contracts.callsite.TraceCallsiteCallsite.TheImpl.{ghosts}
use Rattle.span_tracing_steps.specs.declared.callsite.TraceCallsite.{TraceCallsite}

-- with another value of the stack of a number, which counts as lent until it is asked
abbrev pub lent_in : {T : Type 0} → Table T TraceCallsite → ℕ → T → Table T TraceCallsite
lent_in t stack y = record t { subscribers = lent_to (Some stack) y t.subscribers }

module _ {T F : Type 0} (g : Ghosts T) (swaps : T → ℕ → F → T → F → Type 0) where
  -- the stack lets the filters change places, and then it is asked of each callsite and for its hint
  abbrev pub StackSwaps : StateValue T → OutputPlace → F → Option T → StateValue T → F → Type 0
  StackSwaps v at filter None w back = (back ≡ filter) × (w ≡ v)
  StackSwaps v at filter (Some x) w back =
      (y : T) × swaps x at.place filter y back × Refreshed g ghosts (lent_in v.hub at.stack y) w.hub × (w ≡ record v { hub = w.hub })

  abbrev pub OutputSwaps : StateValue T → Option OutputPlace → F → StateValue T → F → Type 0
  OutputSwaps v None filter w back = (back ≡ filter) × (w ≡ v)
  OutputSwaps v (Some at) filter w back = StackSwaps v at filter (held_in v at.stack) w back

module _ {T F : Type 0} (g : Ghosts T) (registry_of : T → RegistryValue) (swaps : T → ℕ → F → T → F → Type 0) where
  abbrev pub SwapUnless : Option Refusal → StateValue T → ℕ → F → Reply → StateValue T → F → Type 0
  SwapUnless (Some refusal) v output filter reply w back = (reply ≡ Refused refusal) × (back ≡ filter) × (w ≡ v)
  SwapUnless None v output filter reply w back =
      (reply ≡ Done) × OutputSwaps g swaps v (output_at (skeleton_of registry_of v) output) filter w back

  -- Where no output has the number, or nobody holds its stack, that is told, and nothing changes. Else the filters change places, and the
  -- output's stack is asked anew.
  abbrev pub SwapGives : StateValue T → ℕ → F → Reply → StateValue T → F → Type 0
  SwapGives v output filter reply w back =
      SwapUnless (output_refusal (skeleton_of registry_of v) output) v output filter reply w back
