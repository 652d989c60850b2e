-- The spans that an event stands in, found again by the ids of its scope.
use Rattle.std.proofs.Common.{◌≡◌, ◌<◌, ℕ, zero, suc, Bool, List, [], ◌∷◌, ◌++◌, map, reverse, Option, Some, None, is_some, refl, sym, ap}
use Rattle.std.proofs.Common.{◌∙◌, append_assoc, arith}
use Rattle.std.specs.List.{last_or}
use Rattle.std.specs.Option.{option_and_then}
use Rattle.std.proofs.lemmas.List.{map-append, reverse-append}
use Rattle.span_registry_layers_store.specs.References.{PlainRef, ref_of}
use Rattle.span_registry_layers_store.specs.Registries.{PlainSpan, kin_in}
use Rattle.span_registry_layers_store.specs.Spans.{ancestry, line_of, parent_of}
use Rattle.span_registry_layers_store.specs.Views.{all_seen, first_of, one_or_none}
use Rattle.span_registry_layers_layers.specs.Contexts.{event_span, lane_span, span_in}
use Rattle.span_registry_layers_layers.specs.FilterViews.{View}
use Rattle.event_formatter.specs.formats.EventSpans.{IdsLeadBack, leaf_in, refs_at}
use Rattle.event_formatter.specs.formats.Scopes.{only_if, refs_from}
use Rattle.event_formatter.specs.formats.ScopeIds.{HasNumber, id_of, id_of_ref}
use Rattle.event_formatter.proofs.formats.Scopes.{IsShown, event_shown, map_reverse, map_twice, seen_again}

module _ (v : View) where
  abbrev all : List ℕ → List PlainSpan
  all ids = all_seen v.registry v.mask ids

  abbrev ref : PlainSpan → PlainRef
  ref s = ref_of v.registry v.mask s

  all_append : (xs ys : List ℕ) → all (xs ++ ys) ≡ all xs ++ all ys
  all_append [] ys = refl
  all_append (id ∷ xs) ys =
      ap (λ (later : List PlainSpan). one_or_none (span_in v id) ++ later) (all_append xs ys) ∙
      sym (append_assoc (one_or_none (span_in v id)) (all xs) (all ys))

  one_reversed : (f : Option PlainSpan) → one_or_none f ++ [] ≡ reverse (one_or_none f)
  one_reversed None = refl
  one_reversed (Some s) = refl

  all_reversed : (ids : List ℕ) → all (reverse ids) ≡ reverse (all ids)
  all_reversed [] = refl
  all_reversed (id ∷ ids) =
      ap all (reverse-append (id ∷ []) ids) ∙ all_append (reverse ids) (id ∷ [])
      ∙ ap (λ (xs : List PlainSpan). xs ++ (one_or_none (span_in v id) ++ [])) (all_reversed ids)
      ∙ ap (λ (xs : List PlainSpan). reverse (all ids) ++ xs) (one_reversed (span_in v id))
      ∙ sym (reverse-append (one_or_none (span_in v id)) (all ids))

  one_again : (f : Option PlainSpan) → IsShown v f → all (map id_of (one_or_none f)) ≡ one_or_none f
  one_again None is = refl
  one_again (Some s) is = ap (λ (f : Option PlainSpan). one_or_none f ++ []) (is s refl)

  -- spans that are seen are found by their ids
  all_again : (ids : List ℕ) → all (map id_of (all ids)) ≡ all ids
  all_again [] = refl
  all_again (id ∷ ids) =
      let here = one_or_none (span_in v id) in
      ap all (map-append id_of here (all ids)) ∙ all_append (map id_of here) (map id_of (all ids))
      ∙ ap (λ (xs : List PlainSpan). xs ++ all (map id_of (all ids))) (one_again (span_in v id) (seen_again v.registry v.mask id))
      ∙ ap (λ (xs : List PlainSpan). here ++ xs) (all_again ids)

  scope_ids : (s : PlainSpan) → map id_of_ref (refs_from v (Some s)) ≡ map id_of (all (line_of kin_in v.registry.spans s.kin.id))
  scope_ids s = map_twice ref id_of_ref (all (line_of kin_in v.registry.spans s.kin.id))

  refs_again : (s : PlainSpan) → refs_at v (reverse (map id_of_ref (refs_from v (Some s)))) ≡ reverse (refs_from v (Some s))
  refs_again s =
      let line = all (line_of kin_in v.registry.spans s.kin.id) in
      ap (λ (ids : List ℕ). map ref (all (reverse ids))) (scope_ids s)
      ∙ ap (map ref) (all_reversed (map id_of line) ∙ ap reverse (all_again (line_of kin_in v.registry.spans s.kin.id)))
      ∙ map_reverse ref line

  last_behind : (o : Option ℕ) (xs : List ℕ) (x : ℕ) → last_or o (xs ++ x ∷ []) ≡ Some x
  last_behind o [] x = refl
  last_behind o (y ∷ ys) x = last_behind (Some y) ys x

  last_reversed : (x : ℕ) (xs : List ℕ) → last_or None (reverse (x ∷ xs)) ≡ Some x
  last_reversed x xs = ap (last_or None) (reverse-append (x ∷ []) xs) ∙ last_behind None (reverse xs) x

  -- a span whose number isn't 0 is the first of its scope
  begins_by : (n id : ℕ) → 0 < n → (more : List ℕ) × (ancestry kin_in v.registry.spans n (Some id) ≡ id ∷ more)
  unfolding ancestry
  begins_by zero id below = absurd (omega (arith, below))
  begins_by (suc n) id below = (ancestry kin_in v.registry.spans n (parent_of kin_in v.registry.spans id), refl)

  leaf_again : (s : PlainSpan) → span_in v s.kin.id ≡ Some s → 0 < s.kin.id →
      leaf_in v (reverse (map id_of_ref (refs_from v (Some s)))) ≡ Some s
  leaf_again s is below =
      let line = begins_by s.kin.id s.kin.id below in
      let later = map id_of (all line.0) in
      let first : map id_of_ref (refs_from v (Some s)) ≡ s.kin.id ∷ later =
      scope_ids s ∙ ap (λ (ids : List ℕ). map id_of (all ids)) line.1 ∙
      ap (λ (f : Option PlainSpan). map id_of (one_or_none f ++ all line.0)) is in
      ap (λ (ids : List ℕ). option_and_then (span_in v) (last_or None (reverse ids))) first
      ∙ ap (option_and_then (span_in v)) (last_reversed s.kin.id later) ∙ is

  leads_by : (strict lane : Option PlainSpan) (ids : List ℕ) (stands_in : Bool) → IsShown v strict →
      ids ≡ reverse (map id_of_ref (refs_from v (first_of strict lane))) → stands_in ≡ is_some strict → HasNumber strict →
      (leaf_in v (only_if stands_in ids) ≡ strict) × (refs_at v (only_if stands_in ids) ≡ reverse (refs_from v strict))
  leads_by None lane ids stands_in shown are told below =
      (ap (λ (b : Bool). leaf_in v (only_if b ids)) told, ap (λ (b : Bool). refs_at v (only_if b ids)) told)
  leads_by (Some s) lane ids stands_in shown are told below = (
    ap (λ (b : Bool). leaf_in v (only_if b ids)) told ∙ ap (leaf_in v) are ∙ leaf_again s (shown s refl) below,
    ap (λ (b : Bool). refs_at v (only_if b ids)) told ∙ ap (refs_at v) are ∙ refs_again s,
  )

pub lead_back : IdsLeadBack
lead_back v parent ids stands_in fills below = leads_by v (event_span v parent) (lane_span v) ids stands_in (event_shown v parent) fills.0
    fills.1 below
