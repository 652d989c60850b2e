-- The filter of an output and another one change places.
use Rattle.std.specs.Prelude.{◌≡◌, ℕ, Result, OnOk}
use Rattle.tracing_core_fields.specs.requests.Lists.{Every}
use Rattle.span_registry_layers_layers.specs.declared.filter.Filter.{Ghosts as FilterGhosts}
use Rattle.span_registry_layers.specs.CacheValidity.{CacheIsValid}
use Rattle.span_registry_layers.specs.Swaps.{SwapGives}
use Rattle.span_registry_layers.specs.OutputSlots.{filters_of}
use Rattle.span_registry_layers.specs.declared.output.UnknownOutput.{UnknownOutput}
use Rattle.span_tracing_outputs.specs.StackFollows.{LinedStack}
use Rattle.span_tracing_outputs.specs.TraceStacks.{TraceStackValue}

module _ {N E F : Type 0} (g : FilterGhosts F) where
  -- the filters change places, where there is such an output; where all are honest afterwards, what is kept of their answers is right
  pub record LinedSwap (s : LinedStack N E F) (place : ℕ) (filter : F) (t : LinedStack N E F) (back : F) : Type 0 where
    pub result : Result (Unit {0}) UnknownOutput
    pub gives : SwapGives g place filter s result back t
    pub valid : OnOk result (Every (λ f. g.honest f) (filters_of t.rows) → CacheIsValid g t)

  -- and the sinks stay
  abbrev pub StackSwap : {S : Type 0} → TraceStackValue N E F S → ℕ → F → TraceStackValue N E F S → F → Type 0
  StackSwap x place filter y back = LinedSwap x.stack place filter y.stack back × (y.sinks ≡ x.sinks)
