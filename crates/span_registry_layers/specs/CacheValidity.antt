-- What is kept is right.
use Rattle.std.specs.Prelude.{◌≤◌, ℕ, List, Option, Some, None}
use Rattle.tracing_core_fields.specs.requests.Interests.{PlainInterest, Covers}
use Rattle.tracing_core_fields.specs.requests.Lists.{Every}
use Rattle.tracing_core_fields.specs.PlainMetadata.{PlainMetadata}
use Rattle.span_registry_layers_layers.specs.declared.filter.Filter.{Ghosts}
use Rattle.span_registry_layers_layers.specs.declared.filtered.Filtered.{Filtered}
use Rattle.span_registry_layers.specs.OutputSlots.{filters_of}
use Rattle.span_registry_layers.specs.InterestCache.{PlainCachedInterest}
use Rattle.span_registry_layers.specs.Stacks.{StackValue}

-- the kept hint is no lower than the own one
abbrev pub HintOver : Option ℕ → Option ℕ → Type 0
HintOver own None = Unit {0}
HintOver None (Some kept) = ⊥
HintOver (Some own) (Some kept) = own ≤ kept

module _ {F : Type 0} (g : Ghosts F) where
  -- the filter said of the callsite what is kept, or less was kept
  abbrev pub Knows : PlainMetadata → PlainInterest → F → Type 0
  Knows m kept f = (own : PlainInterest) × g.says f m own × Covers kept own

  -- every filter is honest, and what is kept is right of each
  pub record CacheIsValidFor (fs : List F) (interest_cache : List PlainCachedInterest) (hint : Option ℕ) : Type 0 where
    pub honest : Every (λ f. g.honest f) fs
    pub interests : Every (λ site. Every (Knows site.metadata site.interest) fs) interest_cache
    pub hints : Every (λ f. HintOver (g.hint f) hint) fs

  abbrev pub CacheIsValid : {L : Type 0} → StackValue (Filtered L F) → Type 0
  CacheIsValid s = CacheIsValidFor (filters_of s.rows) s.interest_cache s.hint
