use Rattle.std.proofs.Common.{◌≡◌, ◌++◌, ◌∷◌, [], ◌∙◌, List, true, false, take, drop, length, map, arith, ap, sym, subst}
use Rattle.std.specs.Prelude.{◌==◌, ◌&&◌}
use Rattle.std.specs.List.{list_any}
use Rattle.std.proofs.lemmas.List.{with_items_is}
use Rattle.tracing_core_fields.specs.Metadata.{plain_metadata}
use Rattle.tracing_core_fields.specs.requests.Interests.{says_never}
use Rattle.tracing_core_fields.specs.PlainMetadata.{PlainMetadata}
use Rattle.span_registry_layers.specs.Refusals.{is_refusal_of, may_refuse}
use Rattle.span_registry_layers.specs.OutputSlots.{EachBecomes}
use Rattle.span_registry_layers.specs.InterestCache.{KeepsInterest, PlainCachedInterest, Renews, is_of, plain_cached_interest}
use Rattle.span_registry_layers.specs.declared.cached_interest.CachedInterest.{CachedInterest}
use Rattle.span_registry_layers.proofs.KeptInterests.{keeps_renewed, renewed_all}
use Rattle.span_registry_layers.proofs.NotedRefusals.{apart, kept_more, none_renewed, untrue}
use Rattle.span_registry_layers.proofs.interest_cache.InterestCache.keep.Goals as goal

pub invariant_of-self : goal.invariant_of-self
invariant_of-self c = λ n level off.
    let s = c.self.inside.interest_cache in
    let u = c.renew.new.interest_cache in
    let m = plain_metadata c.args.metadata.now in
    let k = c.args.interest in
    let whole : take s.len (u ++ drop (length u) s.items) ≡ u = with_items_is s u (omega arith) in
    let becomes : EachBecomes (Renews m k) s.items u =
    subst (λ (interest_cache : List CachedInterest). EachBecomes (Renews m k) interest_cache u) c.deref_mut.ensures.value
    c.renew.ensures in
    ap (λ (interest_cache : List CachedInterest). list_any (is_refusal_of n level) (map plain_cached_interest interest_cache)) whole
    ∙ ap (list_any (is_refusal_of n level)) (renewed_all m k s.items u becomes)
    ∙ none_renewed m k n level (map plain_cached_interest s.items)
    (apart k (may_refuse c.note.new.self) m.callsite m.level n level c.note.ensures.noted off)
    (c.self.invariant n level (untrue (may_refuse c.self.inside.refusals n level) (may_refuse c.note.new.self n level)
    (c.note.ensures.stays n level) off))

pub invariant_of-self-2 : goal.invariant_of-self-2
invariant_of-self-2 c = λ n level off.
    let s = c.self.inside.interest_cache in
    let m = plain_metadata c.args.metadata.now in
    let k = c.args.interest in
    let site : CachedInterest = record { metadata = c.in-Ok.copy; interest = k } in
    let items : c.push_reserved.new.self.items ≡ s.items ++ site ∷ [] = c.push_reserved.ensures.items ∙
    ap (λ (interest_cache : List CachedInterest). interest_cache ++ site ∷ []) c.reserve.ensures.items in
    let old = c.self.invariant n level (untrue (may_refuse c.self.inside.refusals n level) (may_refuse c.note-2.new.self n level)
    (c.note-2.ensures.stays n level) off) in
    let new : is_refusal_of n level (plain_cached_interest site) ≡ false =
    ap (λ (x : PlainMetadata). says_never k && (x.callsite == n && x.level == level)) c.in-Ok.ensures
    ∙ apart k (may_refuse c.note-2.new.self) m.callsite m.level n level c.note-2.ensures.noted off in
    ap (λ (interest_cache : List CachedInterest). list_any (is_refusal_of n level) (map plain_cached_interest interest_cache)) items
    ∙ kept_more n level s.items site old new

pub returns-then-is_kept : goal.returns-then-is_kept
returns-then-is_kept c =
    let s = c.self.inside.interest_cache in
    let u = c.renew.new.interest_cache in
    let m = plain_metadata c.args.metadata.now in
    let k = c.args.interest in
    let whole : take s.len (u ++ drop (length u) s.items) ≡ u = with_items_is s u (omega arith) in
    let becomes : EachBecomes (Renews m k) s.items u =
    subst (λ (interest_cache : List CachedInterest). EachBecomes (Renews m k) interest_cache u) c.deref_mut.ensures.value
    c.renew.ensures in
    let kept : list_any (is_of m) (map plain_cached_interest s.items) ≡ true =
    ap (λ (interest_cache : List CachedInterest). list_any (is_of m) (map plain_cached_interest interest_cache))
    (sym c.deref.ensures.value) ∙ sym c.is_kept.ensures ∙ c.if-is_kept.true in
    subst (λ (old : List PlainCachedInterest). KeepsInterest true m k old
    (map plain_cached_interest (take s.len (u ++ drop (length u) s.items)))) c.self.view_is
    (subst (λ (interest_cache : List CachedInterest). KeepsInterest true m k (map plain_cached_interest s.items)
    (map plain_cached_interest interest_cache)) (sym whole)
    (keeps_renewed m k s.items u kept becomes))
