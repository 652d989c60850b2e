-- Traces before their first step.
use Rattle.std.specs.Prelude.{ℕ, Result}
use Rattle.tracing_core_fields.specs.PlainMetadata.{PlainMetadata}
use Rattle.tracing_core_fields.specs.declared.requests.subscriber.Subscriber.{Ghosts as SubscriberGhosts}
use Rattle.span_registry_layers_layers.specs.declared.filter.Filter.{Ghosts as FilterGhosts}
use Rattle.span_registry_layers_layers.specs.declared.layer.Layer.{Ghosts as LayerGhosts}
use Rattle.span_tracing_outputs.specs.TraceStacks.{TraceStackValue}
use Rattle.span_tracing_outputs.specs.Turns.{Lines}
use Rattle.span_tracing_skeleton.specs.declared.refusal.Refusal.{Refusal}
use Rattle.span_tracing_laws.specs.runs.StepFollows.{TraceIsReady, Traced}
use Rattle.span_tracing_steps.specs.Setup.{with_thread, without_retired}
use Rattle.span_tracing_steps.specs.States.{PlainThread, new_state}
use Rattle.span_tracing.specs.Sites.{MakesSite, RegistersSite}
use Rattle.span_tracing.specs.declared.site.Site.{Site}

-- A trace without stacks is ready. A ready trace stays so with a lane more, and where a stack that was released is taken.
pub record StartsReady {N E F : Type 0} (g : FilterGhosts F) (h : LayerGhosts (Lines N E)) (S : Type 0) : Type 0 where
  pub new : TraceIsReady {N = N} {E = E} {F = F} {S = S} g h new_state
  pub thread : (v : Traced N E F S) (thread : PlainThread) → TraceIsReady g h v → TraceIsReady g h (with_thread v thread)
  pub taken : (v : Traced N E F S) (number : ℕ) → TraceIsReady g h v → TraceIsReady g h (without_retired v number)

-- A ready trace stays so where a site is registered, and where that is refused.
pub record SitesStayReady {N E F S : Type 0} (g : FilterGhosts F) (h : LayerGhosts (Lines N E))
    (sg : SubscriberGhosts (TraceStackValue N E F S)) : Type 0 where
  pub registered : (v : Traced N E F S) (m : PlainMetadata) (result : Result Site Refusal) (w : Traced N E F S) → TraceIsReady g h v →
      RegistersSite sg v m result w → TraceIsReady g h w
  pub made : (v : Traced N E F S) (m : ℕ → PlainMetadata) (result : Result Site Refusal) (w : Traced N E F S) → TraceIsReady g h v →
      MakesSite sg v m result w → TraceIsReady g h w
