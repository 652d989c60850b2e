-- Why the registry of a stack stays sound.
use Rattle.std.proofs.Common.{◌≡◌, ℕ, Option, Some, None, Result, Ok, Err, sym, ap, subst}
use Rattle.tracing_core_fields.specs.requests.Calls.{Call, ReplyTo, DispatchRegistered, CallsiteRegistered, Asked, HintAsked, SpanMade}
use Rattle.tracing_core_fields.specs.requests.Calls.{Recorded, FollowsRecorded, EventAsked, EventDispatched, Entered, Exited, Cloned}
use Rattle.tracing_core_fields.specs.requests.Calls.{Dropped, CloseTried, CurrentAsked}
use Rattle.tracing_core_fields.specs.requests.PlainRequests.{PlainAttributes}
use Rattle.tracing_core_fields.specs.declared.requests.refusal.RequestError.{RequestError}
use Rattle.span_registry_layers_store.specs.Laws.{IsSound}
use Rattle.span_registry_layers_store.specs.Registries.{RegistryValue}
use Rattle.span_registry_layers_store.proofs.SlotIndependence.{aside_sound}
use Rattle.span_registry_layers_store.proofs.RegistrySoundness.{start_sound, stays_sound}
use Rattle.span_registry_layers_layers.specs.declared.filter.Filter.{Ghosts}
use Rattle.span_registry_layers_layers.specs.declared.filtered.Filtered.{Filtered}
use Rattle.span_registry_layers_layers.specs.declared.layer.Layer.{Ghosts as LayerGhosts}
use Rattle.span_registry_layers.specs.RegistryIndependence.{AloneGives, SpanAlone}
use Rattle.span_registry_layers.specs.Soundness.{NewIsSound, StackStaysSound}
use Rattle.span_registry_layers.specs.Stacks.{StackValue}
use Rattle.span_registry_layers.proofs.RegistryIndependence.{registry_alone}

equal_sound : (x y : RegistryValue) → y ≡ x → IsSound x → IsSound y
equal_sound x y e sound = subst IsSound (sym e) sound

span_sound : (x : RegistryValue) (a : PlainAttributes) (lane : ℕ) (r : Result (Option ℕ) RequestError) (y : RegistryValue) →
    SpanAlone x a lane r y → IsSound x → IsSound y
span_sound x a lane (Ok None) y w sound = equal_sound x y w.1 sound
span_sound x a lane (Ok (Some id)) y w sound = (stays_sound x sound).span a.metadata a.parent lane w.0 (Ok id) y w.1
span_sound x a lane (Err e) y w sound = (stays_sound x sound).span a.metadata a.parent lane w.0 (Err e) y w.1

-- what a registry's own call leaves of it
alone_sound : (x : RegistryValue) (c : Call) (r : ReplyTo c) (y : RegistryValue) → AloneGives x c r y → IsSound x → IsSound y
alone_sound x (DispatchRegistered dispatch) r y w sound = equal_sound x y w sound
alone_sound x (CallsiteRegistered n) r y w sound = equal_sound x y w sound
alone_sound x (Asked n at) r y w sound = equal_sound x y w sound
alone_sound x HintAsked r y w sound = equal_sound x y w sound
alone_sound x (SpanMade a at) r y w sound = span_sound x a at.lane r y w sound
alone_sound x (Recorded id values at) r y w sound = equal_sound x y w.1 sound
alone_sound x (FollowsRecorded id follows at) r y w sound = equal_sound x y w.1 sound
alone_sound x (EventAsked e at) r y w sound = equal_sound x y w sound
alone_sound x (EventDispatched e at) r y w sound = equal_sound x y w.1 sound
alone_sound x (Entered id at) r y w sound = (stays_sound x sound).entry at.lane id r y w
alone_sound x (Exited id at) r y w sound = subst IsSound (sym w) ((stays_sound x sound).exit at.lane id)
alone_sound x (Cloned id at) r y w sound = subst IsSound (sym (ap (λ (p : Result ℕ RequestError × RegistryValue). p.1) w))
    ((stays_sound x sound).handle id)
alone_sound x (Dropped id at) r y w sound = subst IsSound (sym w) ((stays_sound x sound).close id)
alone_sound x (CloseTried id at) r y w sound = subst IsSound (sym w.1) ((stays_sound x sound).close id)
alone_sound x (CurrentAsked at) r y w sound = equal_sound x y w.1 sound

module _ {L F : Type 0} (g : Ghosts F) (h : LayerGhosts L) where
  pub stack_sound : StackStaysSound g h
  stack_sound s c r t m sound =
      let alone = registry_alone g h s c r t m in aside_sound alone.0 t.registry alone.2 (alone_sound s.registry c r alone.0 alone.1 sound)

  pub new_sound : NewIsSound g h
  new_sound outputs s new =
      subst IsSound (sym (ap (λ (v : StackValue (Filtered L F)). v.registry) new.1))
      (record {
        started = start_sound.started;
        ordered = start_sound.ordered;
        below = start_sound.below;
        all_open = start_sound.all_open;
        entries = start_sound.entries;
      })
