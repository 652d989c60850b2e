use Rattle.std.proofs.Common.{◌≡◌, take, drop}
use Rattle.tracing_core_fields.specs.Metadata.{plain_metadata}
use Rattle.span_registry_layers.specs.OutputSlots.{EachBecomes}
use Rattle.span_registry_layers.specs.InterestCache.{Renews}
use Rattle.span_registry_layers.proofs.interest_cache.renew.Given as goal

abbrev pub invariant-loop-site : goal.invariant-loop-site
invariant-loop-site l =
    record {
      done : EachBecomes (Renews (plain_metadata l.metadata) l.interest) (take l.site-index l.fn.interest_cache)
          (take l.site-index l.interest_cache);
      left : drop l.site-index l.interest_cache ≡ drop l.site-index l.fn.interest_cache;
    }
