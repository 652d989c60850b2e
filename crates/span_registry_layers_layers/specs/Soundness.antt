-- The registry of a tree of layers stays sound.
use Rattle.std.specs.Prelude.{Ok}
use Rattle.tracing_core_fields.specs.requests.Calls.{Call, ReplyTo}
use Rattle.span_registry_layers_store.specs.Laws.{IsSound}
use Rattle.span_registry_layers_store.specs.Registries.{RegistryValue}
use Rattle.span_registry_layers_layers.specs.Trees.{AttachGives, IsAttached, JoinGives, Moves}
use Rattle.span_registry_layers_layers.specs.declared.layer.Layer.{Ghosts}
use Rattle.span_registry_layers_layers.specs.declared.layer.layered.Layered.{Layered}

module _ {L : Type 0} (g : Ghosts L) where
  -- attaching layers to a sound registry leaves it so
  abbrev pub AttachedIsSound : Type 0
  AttachedIsSound = (layer : L) (x : RegistryValue) (s : Layered L RegistryValue) → AttachGives g layer x (Ok s) → IsSound x →
      IsSound s.inner

  -- each call on an attached tree keeps its registry sound
  abbrev pub TreeStaysSound : Type 0
  TreeStaysSound = (s : Layered L RegistryValue) (c : Call) (r : ReplyTo c) (t : Layered L RegistryValue) → Moves g s c r t →
      IsAttached g s → IsSound s.inner → IsSound t.inner

module _ {L M : Type 0} (g : Ghosts L) (h : Ghosts M) (k : Ghosts (Layered L M)) where
  -- so does a further layer
  abbrev pub JoinedIsSound : Type 0
  JoinedIsSound = (layer : L) (s : Layered M RegistryValue) (t : Layered (Layered L M) RegistryValue) → JoinGives g h k layer s (Ok t) →
      IsSound s.inner → IsSound t.inner
