-- What setup calls leave of a trace.
use Rattle.std.specs.Prelude.{◌≡◌, ◌⊎◌, ℕ, [], ◌∷◌, ◌++◌, length, false, if◌then◌else◌, nat_lt, slice_set, Some, None, Result, Ok, Err}
use Rattle.tracing_core_fields.specs.PlainMetadata.{PlainMetadata}
use Rattle.tracing_core_fields.specs.requests.Interests.{PlainInterest}
use Rattle.tracing_core_fields.specs.declared.requests.subscriber.Subscriber.{Ghosts}
use Rattle.tracing_core.specs.Commands.{AddGives as HubAdds, RegisterGives as HubRegisters}
use Rattle.tracing_core.specs.declared.hub.parts.Lane.TheVariants.{Running}
use Rattle.tracing_core.specs.declared.hub.parts.LaneDefault.TheVariants.{Unset}
use Rattle.tracing_core.specs.declared.refusal.RegisterError.TheVariants as errors
use Rattle.span_tracing_skeleton.specs.declared.refusal.Refusal.{Refusal}
use Rattle.span_tracing_skeleton.specs.declared.refusal.Refusal.TheVariants.{OutOfMemory, Taken}
use Rattle.span_tracing_steps.specs.Callsites.{own_metadata}
use Rattle.span_tracing_steps.specs.States.{PlainThread, StateValue}
use Rattle.span_tracing_steps.specs.contracts.callsite.TraceCallsiteCallsite.TheImpl.{ghosts}
use Rattle.span_tracing_steps.specs.declared.callsite.TraceCallsite.{TraceCallsite}

-- the metadata at an identifier, whose fields are that callsite's own
abbrev pub own_at : ℕ → PlainMetadata → PlainMetadata
own_at number m = record m { callsite = number }

-- with a lane, which has no default of its own
abbrev pub with_thread : {T : Type 0} → StateValue T → PlainThread → StateValue T
with_thread v thread = record v {
  hub = record v.hub { lanes = v.hub.lanes ++ Running Unset ∷ []; entered = v.hub.entered ++ false ∷ [] };
  threads = v.threads ++ thread ∷ [];
}

-- without the stack that waited under a number
abbrev pub without_retired : {T : Type 0} → StateValue T → ℕ → StateValue T
without_retired v number = record v { retired = if nat_lt number (length v.retired) then slice_set v.retired number None else v.retired }

module _ {T : Type 0} (g : Ghosts T) where
  abbrev pub RegistersAs : TraceCallsite → StateValue T → Result PlainInterest Refusal → StateValue T → Type 0
  RegistersAs callsite v (Ok interest) w = HubRegisters g ghosts v.hub callsite (Ok interest) w.hub × (w ≡ record v { hub = w.hub })
  RegistersAs callsite v (Err refusal) w =
      ((refusal ≡ Taken) × HubRegisters g ghosts v.hub callsite (Err (errors.Taken callsite)) v.hub × (w ≡ v)) ⊎
      ((refusal ≡ OutOfMemory) × (w ≡ v))

  -- a callsite of this metadata is registered as the hub does it; or it is told that other metadata holds the identifier, or that there
  -- is no memory, and nothing changes
  abbrev pub RegisterGives : StateValue T → PlainMetadata → Result PlainInterest Refusal → StateValue T → Type 0
  RegisterGives v m r w = ((callsite : TraceCallsite) × (own_metadata callsite ≡ m) × RegistersAs callsite v r w) ⊎
      ((r ≡ Err OutOfMemory) × (w ≡ v))

module _ {T : Type 0} (g : Ghosts T) (outputs_in sinks_in : T → ℕ) where
  -- A stack is added as the hub does it, under the next number: it is told its handle, asked of each callsite and for its hint, and kept
  -- with what it said. Its handle is the last one, and its outputs and sinks are counted. Or it comes back, and nothing changes.
  abbrev pub AddGives : StateValue T → T → Result ℕ T → StateValue T → Type 0
  AddGives v x (Ok handle) w =
      (handle ≡ length v.handles) × HubAdds g ghosts v.hub x (Ok (Some v.hub.next)) w.hub ×
      (w ≡ record v {
        hub = w.hub;
        outputs = v.outputs ++ outputs_in x ∷ [];
        sinks = v.sinks ++ sinks_in x ∷ [];
        handles = v.handles ++ Some (Some v.hub.next) ∷ [];
        retired = v.retired ++ None ∷ [];
      })
  AddGives v x (Err back) w = (back ≡ x) × (w ≡ v)
