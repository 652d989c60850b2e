-- A further layer over a tree.
use Rattle.std.proofs.Common.{◌≡◌, ◌≤◌, ◌+◌, ◌++◌, ℕ, List, Ok, sym, ap, ◌∙◌, subst}
use Rattle.span_registry_layers_store.specs.Registries.{RegistryValue}
use Rattle.span_registry_layers_layers.specs.Notices.{Attached}
use Rattle.span_registry_layers_layers.specs.FilterNumbers.{AreNumbers, more_filters, numbers_from}
use Rattle.span_registry_layers_layers.specs.Trees.{AttachGives, IsAttached}
use Rattle.span_registry_layers_layers.specs.declared.layer.Layer.{Ghosts}
use Rattle.span_registry_layers_layers.specs.declared.layer.layered.Layered.{Layered}
use Rattle.span_registry_layers_layers.proofs.FilterNumbers.{numbers_before}

pub joins : {L M : Type 0} (g : Ghosts L) (h : Ghosts M) (layer : L) (s : Layered M RegistryValue) (given : Layered L RegistryValue)
    (pair : Layered L M) (t : Layered (Layered L M) RegistryValue) →
    AttachGives g layer s.inner (Ok given) → pair.layer ≡ given.layer → pair.inner ≡ s.layer → t.layer ≡ pair → t.inner ≡ given.inner →
    (s.inner.filters + g.filters layer ≤ 64) × g.told layer (Attached s.inner) t.layer.layer × (t.layer.inner ≡ s.layer) ×
    (t.inner ≡ more_filters (g.filters layer) s.inner)
    × (IsAttached h s → AreNumbers t.inner.filters (g.numbers t.layer.layer ++ h.numbers t.layer.inner) × (t.inner.filters ≤ 64))
joins {L = L} {M = M} g h layer s given pair t a same_layer same_inner joined same_registry =
    let x = s.inner.filters in
    let count = g.filters layer in
    let own : t.layer.layer ≡ given.layer = ap (λ (l : Layered L M). l.layer) joined ∙ same_layer in
    let others : t.layer.inner ≡ s.layer = ap (λ (l : Layered L M). l.inner) joined ∙ same_inner in
    let registry : t.inner ≡ more_filters count s.inner = same_registry ∙ a.2 in
    let filters : t.inner.filters ≡ x + count = ap (λ (r : RegistryValue). r.filters) registry in
    let numbers : g.numbers t.layer.layer ++ h.numbers t.layer.inner ≡ numbers_from x count ++ h.numbers s.layer =
    ap (λ (ns : List ℕ). ns ++ h.numbers t.layer.inner) (ap g.numbers own ∙ a.3) ∙ ap (λ (l : M). numbers_from x count ++ h.numbers l)
    others in (
      a.0,
      subst (λ (l : L). g.told layer (Attached s.inner) l) (sym own) a.1,
      others,
      registry,
      λ attached. (
        subst (AreNumbers t.inner.filters) (sym numbers)
            (subst (λ (n : ℕ). AreNumbers n (numbers_from x count ++ h.numbers s.layer)) (sym filters)
            (numbers_before x count (h.numbers s.layer) attached.0)),
        subst (λ (n : ℕ). n ≤ 64) (sym filters) a.0,
      ),
    )
