-- Spans that are found, and seen.
use Rattle.std.proofs.Common.{◌≡◌, ℕ, List, [], ◌∷◌, Bool, true, false, ◌||◌, ◌==◌, if◌then◌else◌, map, Option, Some, None, refl, ap, sym}
use Rattle.std.proofs.Common.{◌∙◌, subst, true≢false, get_or, MatchOption}
use Rattle.std.specs.Option.{is_some, option_map}
use Rattle.span_registry_layers_store.specs.Places.{IsPlace, kin_of}
use Rattle.span_registry_layers_store.specs.Registries.{kin_in, plain_span}
use Rattle.span_registry_layers_store.specs.Spans.{found, is_open}
use Rattle.span_registry_layers_store.specs.declared.span.Span.{Span}
use Rattle.span_registry_layers_store.proofs.Lists.{get_at}
use Rattle.span_registry_layers_store.proofs.PlainSpans.{found_mapped, open_mapped}

found_else : (b c : Bool) (x : Span) (o : Option Span) → (b || c) ≡ false → (c ≡ false → o ≡ None) → (if b then Some x else o) ≡ None
found_else true c x o h k = absurd (true≢false h)
found_else false c x o h k = k h

pub found_none : (xs : List Span) (id : ℕ) → is_open kin_of xs id ≡ false → found kin_of xs id ≡ None
found_none [] id h = refl
found_none (x ∷ xs) id h = found_else (x.kin.id == id) (is_open kin_of xs id) x (found kin_of xs id) h (found_none xs id)

pub none_found : (xs : List Span) (id : ℕ) → is_open kin_of xs id ≡ false → found kin_in (map plain_span xs) id ≡ None
none_found xs id h = found_mapped xs id ∙ ap (option_map plain_span) (found_none xs id h)

open_if : (o : Option ℕ) (xs : List Span) (id : ℕ) → MatchOption o (is_open kin_of xs id ≡ false) (λ place. IsPlace xs id place) →
    is_some o ≡ is_open kin_of xs id
open_if None xs id none = sym none
open_if (Some place) xs id p = sym p.is_there

-- a span is open where it has a place
pub open_told : (o : Option ℕ) (slice xs : List Span) (id : ℕ) → slice ≡ xs →
    MatchOption o (is_open kin_of slice id ≡ false) (λ place. IsPlace slice id place) → is_some o ≡ is_open kin_in (map plain_span xs) id
open_told o slice xs id same told = open_if o slice id told ∙ ap (λ ss. is_open kin_of ss id) same ∙ sym (open_mapped xs id)

-- the span of a place is the one of its id
pub found_at : (slice xs : List Span) (id place : ℕ) (s : Span) → slice ≡ xs → IsPlace slice id place → s ≡ get_or xs place s →
    Some (plain_span s) ≡ found kin_in (map plain_span xs) id
found_at slice xs id place s same p e =
    let q : IsPlace xs id place = subst (λ zs. IsPlace zs id place) same p in
    sym (found_mapped xs id ∙ ap (option_map plain_span) (q.here ∙ get_at xs place s q.within e))
