-- Layers that are attached in turn, and the filters that they have registered.
use Rattle.std.proofs.Common.{◌≡◌, ◌≤◌, ◌+◌, ◌++◌, ℕ, List, [], ◌∷◌, Result, Ok, Err, refl, ap, sym, ◌∙◌, subst, arith}
use Rattle.span_registry_layers_store.specs.RegistryCalls.{FilterGives}
use Rattle.span_registry_layers_store.specs.Registries.{RegistryValue}
use Rattle.span_registry_layers_store.specs.declared.filter_map.FilterId.{FilterId}
use Rattle.span_registry_layers_store.specs.declared.filter_map.TooManyFilters.{TooManyFilters}
use Rattle.span_registry_layers_layers.specs.Notices.{AddsFilters}
use Rattle.span_registry_layers_layers.specs.FilterNumbers.{more_filters, numbers_from}
use Rattle.span_registry_layers_layers.specs.Several.{EachInTurn, filters_of, numbers_of}
use Rattle.span_registry_layers_layers.specs.declared.layer.Layer.{Ghosts}
use Rattle.span_registry_layers_layers.proofs.FilterNumbers.{more_twice, numbers_joined}

pub adds_more : (x y z : RegistryValue) → AddsFilters x y → AddsFilters y z → AddsFilters x z
adds_more x y z a b =
    let same : x.filters + a.0 + b.0 ≡ x.filters + (a.0 + b.0) = omega arith in (
      a.0 + b.0,
      b.1 ∙ ap (λ (w : RegistryValue). record w { filters = w.filters + b.0 }) a.1 ∙
          ap (λ (n : ℕ). record x { filters = n }) same,
    )

pub adds_none : (x : RegistryValue) → AddsFilters x x
adds_none x = let same : x.filters ≡ x.filters + 0 = omega arith in (0, ap (λ (n : ℕ). record x { filters = n }) same)

pub registers : (x y : RegistryValue) (r : Result FilterId TooManyFilters) → FilterGives x r y → AddsFilters x y
registers x y (Ok filter) w = (1, w.2)
registers x y (Err refusal) w = subst (AddsFilters x) (sym w.1) (adds_none x)

module _ {L : Type 0} (g : Ghosts L) where
  -- the filters of one layer are numbered, where there is room
  abbrev pub Numbered : RegistryValue → L → RegistryValue → L → Type 0
  Numbered x l y m = x.filters + g.filters l ≤ 64 → (y ≡ more_filters (g.filters l) x) ×
      (g.numbers m ≡ numbers_from x.filters (g.filters l))

  more_of : (x y : RegistryValue) (l : L) (count : ℕ) → y ≡ more_filters (g.filters l) x → x.filters + (g.filters l + count) ≤ 64 →
      y.filters + count ≤ 64
  more_of x y l count e h = let same : y.filters ≡ x.filters + g.filters l = ap (λ (v : RegistryValue). v.filters) e in
      omega (arith, same, h)

  pub numbered_all : (x : RegistryValue) (ls : List L) (z : RegistryValue) (ms : List L) → EachInTurn Numbered x ls z ms →
      x.filters + filters_of g ls ≤ 64 → (z ≡ more_filters (filters_of g ls) x) ×
      (numbers_of g ms ≡ numbers_from x.filters (filters_of g ls))
  numbered_all x [] z [] w h = (
    let same : x.filters ≡ x.filters + 0 = omega arith in w ∙ ap (λ (n : ℕ). record x { filters = n }) same,
    refl,
  )
  numbered_all x [] z (m ∷ ms) w h = absurd w
  numbered_all x (l ∷ ls) z [] w h = absurd w
  numbered_all x (l ∷ ls) z (m ∷ ms) w h =
      let first = w.1 (omega (arith, h)) in
      let rest = numbered_all w.0 ls z ms w.2 (more_of x w.0 l (filters_of g ls) first.0 h) in (
        rest.0 ∙ ap (more_filters (filters_of g ls)) first.0 ∙ more_twice (g.filters l) (filters_of g ls) x,
        ap (λ ns. ns ++ numbers_of g ms) first.1 ∙ ap (λ ns. numbers_from x.filters (g.filters l) ++ ns)
            (rest.1 ∙ ap (λ (y : RegistryValue). numbers_from y.filters (filters_of g ls)) first.0) ∙
            numbers_joined x.filters (g.filters l) (filters_of g ls),
      )

-- of two layers in turn
pub numbered_both : {A B : Type 0} (g : Ghosts A) (h : Ghosts B) (a c : A) (b d : B) (x y z : RegistryValue) → Numbered g x a y c →
    Numbered h y b z d → x.filters + (g.filters a + h.filters b) ≤ 64 →
    (z ≡ more_filters (g.filters a + h.filters b) x) × (g.numbers c ++ h.numbers d ≡ numbers_from x.filters (g.filters a + h.filters b))
numbered_both g h a c b d x y z v w fits =
    let first = v (omega (arith, fits)) in
    let second = w (more_of g x y a (h.filters b) first.0 fits) in (
      second.0 ∙ ap (more_filters (h.filters b)) first.0 ∙ more_twice (g.filters a) (h.filters b) x,
      ap (λ ns. ns ++ h.numbers d) first.1 ∙ ap (λ ns. numbers_from x.filters (g.filters a) ++ ns)
          (second.1 ∙ ap (λ (q : RegistryValue). numbers_from q.filters (h.filters b)) first.0) ∙
          numbers_joined x.filters (g.filters a) (h.filters b),
    )
