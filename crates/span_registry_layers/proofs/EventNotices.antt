-- An event that outputs are told of.
use Rattle.std.proofs.Common.{◌≡◌, Bool, true, false, refl, sym, subst, Ok}
use Rattle.tracing_core_moments.specs.declared.at.At.{At}
use Rattle.tracing_core_fields.specs.requests.PlainRequests.{PlainEvent, explicit_parent}
use Rattle.span_registry_layers_store.specs.Registries.{knows}
use Rattle.span_registry_layers_layers.specs.declared.filter.Filter.{Ghosts}
use Rattle.span_registry_layers_layers.specs.declared.filtered.Filtered.{Filtered}
use Rattle.span_registry_layers_layers.specs.declared.layer.Layer.{Ghosts as LayerGhosts}
use Rattle.span_registry_layers.specs.Stacks.{EventUnless, StackValue, TellsAll, TellsUnless, WhereKnown}

module _ {L F : Type 0} (g : Ghosts F) (h : LayerGhosts L) where
  pub event_told : (refused : Bool) (e : PlainEvent) (at : At) (s t : StackValue (Filtered L F)) →
      knows s.registry (explicit_parent e.parent) ≡ true → refused ≡ false → TellsAll g h e at s t →
      EventUnless g h refused e at s (Ok tt) t
  event_told refused e at s t known asked told =
      subst (λ b. WhereKnown b s (TellsUnless g h refused e at s) (Ok tt) t) (sym known)
      (refl, subst (λ b. TellsUnless g h b e at s t) (sym asked) told)
