-- The next span closes, after those who were told of it wrote slots.
use Rattle.std.proofs.Common.{◌≡◌, ℕ, true, List, [], ◌∷◌, Option, Some, None, sym, ap, ◌∙◌}
use Rattle.tracing_core_moments.specs.declared.at.At.{At}
use Rattle.span_registry_layers_store.specs.SlotIndependence.{SameButSlots, bare, ids_of}
use Rattle.span_registry_layers_store.specs.RegistryCalls.{ClosesNext, ForgetGives, IsNext}
use Rattle.span_registry_layers_store.specs.Registries.{PlainSpan, RegistryValue, closing_in, swept}
use Rattle.span_registry_layers_store.proofs.SlotIndependence.{aside_closing, aside_next_closes, aside_swept}
use Rattle.span_registry_layers_layers.specs.FilterViews.{Closed}
use Rattle.span_registry_layers_layers.specs.Notices.{Spanned}
use Rattle.span_registry_layers_layers.specs.Trees.{ClosesOne, whole}
use Rattle.span_registry_layers_layers.specs.declared.layer.Layer.{Ghosts}
use Rattle.span_registry_layers_layers.specs.declared.layer.layered.Layered.{Layered}

heads : {A : Type 0} (x y : A) (xs ys : List A) → x ∷ xs ≡ y ∷ ys → x ≡ y
heads x y xs ys e = cc

none_some : {A : Type 0} (x : A) (xs : List A) → x ∷ xs ≡ [] → ⊥
none_some x xs e = absurd (cc)

-- what is forgotten is the span that closes next
forgotten : (x y : RegistryValue) (id : ℕ) (r : Option ℕ) → IsNext x id → ForgetGives x r y → ClosesNext x id y
forgotten x y id None next given = absurd (none_some next.0 next.1 (sym next.3 ∙ given.0.0))
forgotten x y id (Some gone) next given =
    let same : next.0 ≡ given.0 = heads next.0 given.0 next.1 (closing_in y) (sym next.3 ∙ given.2) in
    (given.0, sym (ap (λ (s : PlainSpan). s.kin.id) same) ∙ next.2, given.2, given.3, given.4, given.5)

pub closed_next : (x z y : RegistryValue) (id : ℕ) (r : Option ℕ) → IsNext x id → SameButSlots x z → ForgetGives z r y →
    ClosesNext z id y × (ids_of (closing_in x) ≡ id ∷ ids_of (closing_in y)) × SameButSlots (swept x) (swept y)
closed_next x z y id r next same given =
    let gone = forgotten z y id r (aside_next_closes x z id same next) given in (
      gone,
      sym (aside_closing x z same) ∙ ap ids_of gone.2 ∙ ap (λ (n : ℕ). n ∷ ids_of (closing_in y)) gone.1,
      ap bare gone.3 ∙ aside_swept x z same,
    )

module _ {L : Type 0} (g : Ghosts L) where
  pub closed_one : (at : At) (s : Layered L RegistryValue) (id : ℕ) (z : RegistryValue) (r : Option ℕ) (t : Layered L RegistryValue) →
      IsNext s.inner id → g.told s.layer (Spanned id (Closed id) (whole at s.inner) z) t.layer → ForgetGives z r t.inner →
      ClosesOne g at s true t
  closed_one at s id z r t next heard given =
      let gone = closed_next s.inner z t.inner id r next (g.aside s.layer (Spanned id (Closed id) (whole at s.inner) z) t.layer heard).0
      given in
      (id, z, heard, gone.0, gone.1, gone.2)
