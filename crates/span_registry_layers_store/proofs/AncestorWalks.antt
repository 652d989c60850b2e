-- Walks along a span's ancestors.
use Rattle.std.proofs.Common.{◌≡◌, ℕ, List, [], ◌∷◌, ◌++◌, map, reverse, Option, Some, None, refl, ap, sym, ◌∙◌, append_assoc}
use Rattle.std.specs.Option.{option_map}
use Rattle.std.proofs.lemmas.List.{map-append, reverse-append}
use Rattle.std.proofs.lemmas.Option.{none-some, same_Some}
use Rattle.span_registry_layers_store.specs.References.{plain_ref, ref_of, refs_of}
use Rattle.span_registry_layers_store.specs.Registries.{PlainSpan, RegistryValue}
use Rattle.span_registry_layers_store.specs.Views.{all_seen, mask_of, one_or_none, seen}
use Rattle.span_registry_layers_store.specs.declared.scope.Scope.{Scope}
use Rattle.span_registry_layers_store.specs.declared.span_ref.SpanRef.{SpanRef}

module _ (x : RegistryValue) (mask : Option ℕ) where
  one_gives : (ids : List ℕ) (o : Option PlainSpan) (r : SpanRef) → Some (plain_ref r) ≡ option_map (ref_of x mask) o →
      map (ref_of x mask) (one_or_none o ++ all_seen x mask ids) ≡ plain_ref r ∷ refs_of x mask ids
  one_gives ids None r e = absurd (none-some (plain_ref r) (sym e))
  one_gives ids (Some s) r e = ap (λ y. y ∷ refs_of x mask ids) (sym (same_Some (plain_ref r) (ref_of x mask s) e))

  one_skips : (ids : List ℕ) (o : Option PlainSpan) → None ≡ option_map (ref_of x mask) o →
      map (ref_of x mask) (one_or_none o ++ all_seen x mask ids) ≡ refs_of x mask ids
  one_skips ids None e = refl
  one_skips ids (Some s) e = absurd (none-some (ref_of x mask s) e)

  -- an id whose span is seen
  pub gives : (id : ℕ) (ids : List ℕ) (r : SpanRef) → Some (plain_ref r) ≡ option_map (ref_of x mask) (seen x mask id) →
      refs_of x mask (id ∷ ids) ≡ plain_ref r ∷ refs_of x mask ids
  gives id ids r e = one_gives ids (seen x mask id) r e

  -- an id whose span is not
  pub skips : (id : ℕ) (ids : List ℕ) → None ≡ option_map (ref_of x mask) (seen x mask id) → refs_of x mask (id ∷ ids) ≡ refs_of x mask ids
  skips id ids e = one_skips ids (seen x mask id) e

  seen_append : (ids later : List ℕ) → all_seen x mask (ids ++ later) ≡ all_seen x mask ids ++ all_seen x mask later
  seen_append [] later = refl
  seen_append (id ∷ ids) later = ap (λ ss. one_or_none (seen x mask id) ++ ss) (seen_append ids later) ∙
      sym (append_assoc (one_or_none (seen x mask id)) (all_seen x mask ids) (all_seen x mask later))

  refs_append : (ids later : List ℕ) → refs_of x mask (ids ++ later) ≡ refs_of x mask ids ++ refs_of x mask later
  refs_append ids later = ap (map (ref_of x mask)) (seen_append ids later) ∙
      map-append (ref_of x mask) (all_seen x mask ids) (all_seen x mask later)

  one_turned : (o : Option PlainSpan) → map (ref_of x mask) (one_or_none o ++ []) ≡ reverse (map (ref_of x mask) (one_or_none o ++ []))
  one_turned None = refl
  one_turned (Some s) = refl

  -- the other way round
  pub refs_reverse : (ids : List ℕ) → refs_of x mask (reverse ids) ≡ reverse (refs_of x mask ids)
  refs_reverse [] = refl
  refs_reverse (id ∷ ids) =
      ap (refs_of x mask) (reverse-append (id ∷ []) ids) ∙ refs_append (reverse ids) (id ∷ [])
      ∙ ap (λ rs. rs ++ refs_of x mask (id ∷ [])) (refs_reverse ids)
      ∙ ap (λ rs. reverse (refs_of x mask ids) ++ rs) (one_turned (seen x mask id))
      ∙ sym (ap reverse (refs_append (id ∷ []) ids) ∙ reverse-append (refs_of x mask (id ∷ [])) (refs_of x mask ids))

same_left : (s t : Scope) → t.registry ≡ s.registry → t.filter ≡ s.filter → (ids : List ℕ) →
    refs_of s.registry.now (mask_of s.filter) ids ≡ refs_of t.registry.now (mask_of t.filter) ids
same_left s t registry filter ids = rw (registry, filter) refl
