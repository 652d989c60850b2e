-- Whether the span of a place stays.
use Rattle.std.proofs.Common.{◌≡◌, ◌<◌, ◌+◌, ◌==◌, ◌||◌, if◌then◌else◌, ℕ, zero, suc, List, [], ◌∷◌, length, drop, get_or, map, Bool, true}
use Rattle.std.proofs.Common.{false, true≢false, refl, ap, sym, subst, ◌∙◌, arith}
use Rattle.span_registry_layers_store.specs.Places.{IsPlace, kin_of}
use Rattle.span_registry_layers_store.specs.Registries.{kin_in, plain_span}
use Rattle.span_registry_layers_store.specs.Spans.{Rises, is_open, keeps, stays}
use Rattle.span_registry_layers_store.specs.declared.span.Span.{Span}
use Rattle.span_registry_layers_store.proofs.ParentLinks.{stays_carried}
use Rattle.span_registry_layers_store.proofs.ForgottenSpans.{above_at, away, equal_true, found_id}
use Rattle.span_registry_layers_store.proofs.SeenSpans.{found_at}

module _ (lanes : List (List ℕ)) where
  none_if : (b c : Bool) (here later : Bool) → (b || c) ≡ false → (c ≡ false → later ≡ true) → (if b then here else later) ≡ true
  none_if true c here later none rest = absurd (true≢false none)
  none_if false c here later none rest = rest none

  -- what isn't open can't go
  pub keeps_none : (xs : List Span) (id : ℕ) → is_open kin_of xs id ≡ false → keeps kin_in lanes (map plain_span xs) id ≡ true
  keeps_none [] id none = refl
  keeps_none (x ∷ xs) id none = none_if (x.kin.id == id) (is_open kin_of xs id) (stays kin_in lanes (plain_span x) (map plain_span xs))
      (keeps kin_in lanes (map plain_span xs) id) none (keeps_none xs id)

  keeps_here : (x : Span) (xs : List Span) → keeps kin_in lanes (map plain_span (x ∷ xs)) x.kin.id ≡ stays kin_of lanes x xs
  keeps_here x xs = rw (equal_true x.kin.id) (stays_carried kin_in plain_span lanes x xs)

  keeps_at : (least : ℕ) (xs : List Span) (place : ℕ) (s : Span) → Rises kin_in least (map plain_span xs) → place < length xs →
      s ≡ get_or xs place s → keeps kin_in lanes (map plain_span xs) s.kin.id ≡ stays kin_of lanes s (drop (suc place) xs)
  keeps_at least [] place s rise within e = absurd (omega (arith, within))
  keeps_at least (x ∷ xs) zero s rise within e =
      subst (λ (t : Span). keeps kin_in lanes (map plain_span (x ∷ xs)) t.kin.id ≡ stays kin_of lanes t xs) (sym e) (keeps_here x xs)
  keeps_at least (x ∷ xs) (suc place) s rise within e =
      let above = above_at (x.kin.id + 1) xs place s rise.1 (omega (arith, within)) e in
      rw (away x.kin.id s.kin.id (omega (arith, above))) (keeps_at (x.kin.id + 1) xs place s rise.1 (omega (arith, within)) e)

  pub keeps_there : (slice xs : List Span) (id place : ℕ) (s : Span) (later : List Span) → slice ≡ xs → IsPlace slice id place →
      s ≡ get_or slice place s → later ≡ drop (place + 1) slice → Rises kin_in 0 (map plain_span xs) →
      stays kin_of lanes s later ≡ keeps kin_in lanes (map plain_span xs) id
  keeps_there slice xs id place s later same p e rest rise =
      let within : place < length xs = subst (λ (ys : List Span). place < length ys) same p.within in
      let here : s ≡ get_or xs place s = e ∙ ap (λ (ys : List Span). get_or ys place s) same in
      let next : place + 1 ≡ suc place = omega arith in
      ap (stays kin_of lanes s) (rest ∙ ap (λ (n : ℕ). drop n slice) next ∙ ap (drop (suc place)) same)
      ∙ sym (keeps_at 0 xs place s rise within here)
      ∙ ap (keeps kin_in lanes (map plain_span xs))
      (found_id (map plain_span xs) id (plain_span s) (sym (found_at slice xs id place s same p here)))
