-- What a call gives on a stack's parts is what it gives on the stack.
use Rattle.std.proofs.Common.{◌≡◌, subst}
use Rattle.span_registry_layers_layers.specs.declared.filter.Filter.{Ghosts}
use Rattle.span_registry_layers_layers.specs.declared.filtered.Filtered.{Filtered}
use Rattle.span_registry_layers_layers.specs.declared.layer.Layer.{Ghosts as LayerGhosts}
use Rattle.span_registry_layers.specs.CacheValidity.{CacheIsValid}
use Rattle.span_registry_layers.specs.Stacks.{StackValue}
use Rattle.span_registry_layers.specs.Steps.{PreservesFilters, keeps_word}

module _ {L F : Type 0} (g : Ghosts F) (h : LayerGhosts L) (Gives : StackValue (Filtered L F) → StackValue (Filtered L F) → Type 0) where
  -- where the call preserves the filters, what is kept of their answers stays right
  pub on_stack : ((s t : StackValue (Filtered L F)) → Gives s t → PreservesFilters g h s t) → (v s t : StackValue (Filtered L F)) → v ≡ s →
      Gives v t → Gives s t × (CacheIsValid g s → CacheIsValid g t)
  on_stack preserves v s t view given =
      let gives = subst (λ x. Gives x t) view given in
      (gives, keeps_word g h s t (preserves s t gives))
