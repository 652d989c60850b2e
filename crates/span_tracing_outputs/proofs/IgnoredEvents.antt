-- A stack with sinks that is at rest stays where its stack ignores an event.
use Rattle.std.proofs.Common.{◌≡◌, ℕ, Bool, true, List, [], ◌∷◌, length, Option, None, refl, ap, sym, ◌∙◌, subst, arith}
use Rattle.std.specs.Prelude.{◌||◌, Ok}
use Rattle.std.specs.List.{list_any}
use Rattle.tracing_core_fields.specs.requests.Calls.{EventDispatched}
use Rattle.tracing_core_fields.specs.requests.PlainRequests.{PlainEvent, explicit_parent}
use Rattle.tracing_core_moments.specs.declared.at.At.{At}
use Rattle.span_registry_layers_store.specs.Registries.{knows}
use Rattle.span_registry_layers_layers.specs.declared.filter.Filter.{Ghosts as FilterGhosts}
use Rattle.span_registry_layers_layers.specs.declared.layer.Layer.{Ghosts as LayerGhosts}
use Rattle.span_registry_layers.specs.InterestCache.{is_refused_by}
use Rattle.span_registry_layers.specs.Stacks.{EventCached, WhereKnown, TellsUnless, cleared as unmarked, is_above}
use Rattle.span_tracing_outputs.specs.SinkLines.{HandsOver, NoLines, TakesEach}
use Rattle.span_tracing_outputs.specs.OutputMachines.{PlainLine}
use Rattle.span_tracing_outputs.specs.StackFollows.{LinedStack}
use Rattle.span_tracing_outputs.specs.TraceStacks.{IsAtRest, TraceMoves, TraceStackValue}
use Rattle.span_tracing_outputs.specs.Turns.{Lined, Lines}
use Rattle.span_tracing_outputs.proofs.HandedLines.{cleared_same}

module _ {N E F : Type 0} where
  takes_nothing : {S : Type 0} (takes : S → At → PlainLine → S → Type 0) (at : At) (rows : List (Lined N E F)) (sinks : List S) →
      NoLines rows → length sinks ≡ length rows → TakesEach takes at rows sinks sinks
  takes_nothing takes at [] [] none paired = tt
  takes_nothing takes at [] (k ∷ ks) none paired = absurd (omega (arith, paired))
  takes_nothing takes at (row ∷ rows) [] none paired = absurd (omega (arith, paired))
  takes_nothing takes at (row ∷ rows) (k ∷ ks) none paired = (rw none.0 refl, takes_nothing takes at rows ks none.1 (omega (arith, paired)))

  -- where no output keeps a line, all stays as it is
  pub nothing_handed : {S : Type 0} (takes : S → At → PlainLine → S → Type 0) (at : At) (s : LinedStack N E F) (sinks : List S) →
      NoLines s.rows → length sinks ≡ length s.rows → HandsOver takes at s sinks s sinks
  nothing_handed takes at s sinks none paired = (
    takes_nothing takes at s.rows sinks none paired,
    ap (λ (ls : List (Lined N E F)). record s { rows = ls }) (sym (cleared_same s.rows none)),
  )

  module _ (g : FilterGhosts F) (h : LayerGhosts (Lines N E)) where
    refused_stays : (s : LinedStack N E F) (e : PlainEvent) (at : At) → is_above s.hint e.metadata.level ≡ true → unmarked s ≡ s →
        explicit_parent e.parent ≡ None → EventCached g h e at s (Ok tt) s
    refused_stays s e at above same root =
        subst (λ (o : Option ℕ). WhereKnown (knows s.registry o) s
        (TellsUnless g h (is_above s.hint e.metadata.level || list_any (is_refused_by e.metadata) s.interest_cache) e at s) (Ok tt) s)
        (sym root) (
          refl,
          subst (λ (b : Bool). TellsUnless g h (b || list_any (is_refused_by e.metadata) s.interest_cache) e at s s) (sym above)
              (sym same),
        )

    pub ignored : {S : Type 0} (takes : S → At → PlainLine → S → Type 0) (x : TraceStackValue N E F S) (level : ℕ) →
        IsAtRest x.stack x.sinks → is_above x.stack.hint level ≡ true → unmarked x.stack ≡ x.stack →
        (e : PlainEvent) (at : At) → e.metadata.level ≡ level → explicit_parent e.parent ≡ None →
        TraceMoves g h takes x (EventDispatched e at) (Ok tt) x
    ignored takes x level rest above same e at is root = (
      x.stack,
      refused_stays x.stack e at (ap (is_above x.stack.hint) is ∙ above) same root,
      nothing_handed takes at x.stack x.sinks rest.1 rest.0,
    )
