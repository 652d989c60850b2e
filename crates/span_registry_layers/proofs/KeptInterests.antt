-- Keeping interests of callsites.
use Rattle.std.proofs.Common.{◌≡◌, true, List, [], ◌∷◌, map, refl, ap, ◌∙◌, subst, sym}
use Rattle.std.specs.List.{list_any}
use Rattle.tracing_core_fields.specs.requests.Interests.{PlainInterest}
use Rattle.tracing_core_fields.specs.PlainMetadata.{PlainMetadata}
use Rattle.span_registry_layers.specs.OutputSlots.{EachBecomes}
use Rattle.span_registry_layers.specs.InterestCache.{KeepsInterest, KeptIf, Renews, is_of, plain_cached_interest, renewed}
use Rattle.span_registry_layers.specs.declared.cached_interest.CachedInterest.{CachedInterest}

pub renewed_all : (m : PlainMetadata) (k : PlainInterest) (interest_cache later : List CachedInterest) →
    EachBecomes (Renews m k) interest_cache later →
    map plain_cached_interest later ≡ map (renewed m k) (map plain_cached_interest interest_cache)
renewed_all m k [] [] w = refl
renewed_all m k [] (t ∷ ts) w = absurd w
renewed_all m k (s ∷ ss) [] w = absurd w
renewed_all m k (s ∷ ss) (t ∷ ts) w = ap (λ c. c ∷ map plain_cached_interest ts) w.0 ∙ ap (λ cs. renewed m k (plain_cached_interest s) ∷ cs)
    (renewed_all m k ss ts w.1)

pub keeps_renewed : (m : PlainMetadata) (k : PlainInterest) (interest_cache later : List CachedInterest) →
    list_any (is_of m) (map plain_cached_interest interest_cache) ≡ true → EachBecomes (Renews m k) interest_cache later →
    KeepsInterest true m k (map plain_cached_interest interest_cache) (map plain_cached_interest later)
keeps_renewed m k interest_cache later e w =
    subst (λ b. KeptIf b true m k (map plain_cached_interest interest_cache) (map plain_cached_interest later)) (sym e)
    (refl, renewed_all m k interest_cache later w)
