-- The registry of a stack stays sound.
use Rattle.std.specs.Prelude.{List}
use Rattle.tracing_core_fields.specs.requests.Calls.{Call, ReplyTo}
use Rattle.span_registry_layers_store.specs.Laws.{IsSound}
use Rattle.span_registry_layers_layers.specs.declared.filter.Filter.{Ghosts}
use Rattle.span_registry_layers_layers.specs.declared.filtered.Filtered.{Filtered}
use Rattle.span_registry_layers_layers.specs.declared.layer.Layer.{Ghosts as LayerGhosts}
use Rattle.span_registry_layers.specs.Moves.{Moves}
use Rattle.span_registry_layers.specs.NewStack.{IsNew}
use Rattle.span_registry_layers.specs.Stacks.{StackValue}
use Rattle.span_registry_layers.specs.declared.output.Output.{Output}

module _ {L F : Type 0} (g : Ghosts F) (h : LayerGhosts L) where
  -- that of a new stack is sound
  abbrev pub NewIsSound : Type 0
  NewIsSound = (outputs : List (Output (Filtered L F))) (s : StackValue (Filtered L F)) → IsNew h g outputs s → IsSound s.registry

  -- each call keeps it so
  abbrev pub StackStaysSound : Type 0
  StackStaysSound = (s : StackValue (Filtered L F)) (c : Call) (r : ReplyTo c) (t : StackValue (Filtered L F)) → Moves g h s c r t →
      IsSound s.registry → IsSound t.registry
