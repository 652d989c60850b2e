-- What is kept of callsites.
use Rattle.std.specs.Prelude.{◌≡◌, ◌&&◌, ◌⊎◌, ◌++◌, Bool, true, false, List, [], ◌∷◌, map, if◌then◌else◌}
use Rattle.std.specs.List.{list_any}
use Rattle.tracing_core_fields.specs.requests.Interests.{PlainInterest, says_never}
use Rattle.tracing_core_fields.specs.PlainMetadata.{PlainMetadata, is_same_metadata}
use Rattle.tracing_core_fields.specs.OwnedMetadatas.{owned_plain}
use Rattle.span_registry_layers.specs.declared.cached_interest.CachedInterest.{CachedInterest}

-- a callsite and the interest that is kept of it
pub record PlainCachedInterest : Type 0 where
  pub metadata : PlainMetadata
  pub interest : PlainInterest

abbrev pub plain_cached_interest : CachedInterest → PlainCachedInterest
plain_cached_interest site = record { metadata = owned_plain site.metadata; interest = site.interest }

abbrev pub is_of : PlainMetadata → PlainCachedInterest → Bool
is_of m site = is_same_metadata site.metadata m

-- it is this callsite, and nobody's interest is kept of it
abbrev pub is_refused_by : PlainMetadata → PlainCachedInterest → Bool
is_refused_by m site = says_never site.interest && is_of m site

abbrev pub renewed : PlainMetadata → PlainInterest → PlainCachedInterest → PlainCachedInterest
renewed m k site = if is_of m site then record site { interest = k } else site

-- the same callsite, with the interest where it is this one
abbrev pub Renews : PlainMetadata → PlainInterest → CachedInterest → CachedInterest → Type 0
Renews m k site later = plain_cached_interest later ≡ renewed m k (plain_cached_interest site)

abbrev pub CachesInterestIf : Bool → PlainMetadata → PlainInterest → List PlainCachedInterest → List PlainCachedInterest → Type 0
CachesInterestIf true m k interest_cache later = later ≡ map (renewed m k) interest_cache
CachesInterestIf false m k interest_cache later = (later ≡ interest_cache) ⊎
    (later ≡ interest_cache ++ record { metadata = m; interest = k } ∷ [])

-- the interest is kept of the callsite; one that was not kept before may find no memory
abbrev pub CachesInterest : PlainMetadata → PlainInterest → List PlainCachedInterest → List PlainCachedInterest → Type 0
CachesInterest m k interest_cache later = CachesInterestIf (list_any (is_of m) interest_cache) m k interest_cache later

abbrev pub KeptIf : Bool → Bool → PlainMetadata → PlainInterest → List PlainCachedInterest → List PlainCachedInterest → Type 0
KeptIf true kept m k interest_cache later = (kept ≡ true) × (later ≡ map (renewed m k) interest_cache)
KeptIf false true m k interest_cache later = later ≡ interest_cache ++ record { metadata = m; interest = k } ∷ []
KeptIf false false m k interest_cache later = later ≡ interest_cache

-- the same, with whether it is kept
abbrev pub KeepsInterest : Bool → PlainMetadata → PlainInterest → List PlainCachedInterest → List PlainCachedInterest → Type 0
KeepsInterest kept m k interest_cache later = KeptIf (list_any (is_of m) interest_cache) kept m k interest_cache later
