use Rattle.std.proofs.Common.{◌∙◌, ◌≡◌, false, map, ap, sym}
use Rattle.std.specs.List.{list_any}
use Rattle.tracing_core_fields.specs.Metadata.{plain_metadata}
use Rattle.span_registry_layers.specs.Refusals.{is_refusal_of, may_refuse}
use Rattle.span_registry_layers.specs.InterestCache.{is_refused_by, plain_cached_interest}
use Rattle.span_registry_layers.proofs.NotedRefusals.{nobody_refuses}
use Rattle.span_registry_layers.proofs.interest_cache.InterestCache.refuse.Goals as goal

pub returns-then-not-may_refuse : goal.returns-then-not-may_refuse
returns-then-not-may_refuse c =
    let m = plain_metadata c.args.metadata.now in
    let interest_cache = map plain_cached_interest c.self.inside.interest_cache.items in
    let off : may_refuse c.self.inside.refusals m.callsite m.level ≡ false = sym c.may_refuse.ensures ∙ c.if-not-may_refuse.true in
    let none : list_any (is_refusal_of m.callsite m.level) interest_cache ≡ false = c.self.invariant m.callsite m.level off in
    sym (ap (list_any (is_refused_by m)) (sym c.self.view_is) ∙ nobody_refuses m interest_cache none)
