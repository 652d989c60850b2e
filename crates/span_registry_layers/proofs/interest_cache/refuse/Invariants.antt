use Rattle.std.proofs.Common.{◌≡◌, length, map}
use Rattle.std.specs.List.{list_any}
use Rattle.tracing_core_fields.specs.Metadata.{plain_metadata}
use Rattle.span_registry_layers.specs.InterestCache.{is_refused_by, plain_cached_interest}
use Rattle.span_registry_layers.proofs.interest_cache.refuse.Given as goal

abbrev pub invariant-loop-rest : goal.invariant-loop-rest
invariant-loop-rest l = list_any (is_refused_by (plain_metadata l.metadata)) (map plain_cached_interest l.rest) ≡ list_any
    (is_refused_by (plain_metadata l.metadata)) (map plain_cached_interest l.fn.interest_cache)

abbrev pub decreases-loop-rest : goal.decreases-loop-rest
decreases-loop-rest l = length l.rest
