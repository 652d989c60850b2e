use Rattle.std.proofs.Common.{◌≡◌, ◌+◌, ◌≤◌, ℕ, ap, sym, subst, ◌∙◌, arith}
use Rattle.span_registry_layers_store.specs.Registries.{RegistryValue}
use Rattle.span_registry_layers_layers.specs.FilterNumbers.{AreNumbers, numbers_from}
use Rattle.span_registry_layers_layers.proofs.FilterNumbers.{fits_within, numbers_apart}
use Rattle.span_registry_layers_layers.proofs.attached.attach.Goals as goal

pub returns-then-has_room : goal.returns-then-has_room
returns-then-has_room g c =
    let x = c.args.registry.filters in
    let count = g.L.Layer.filters c.args.layer in
    let fits = fits_within x count (sym c.has_room.ensures ∙ c.if-has_room.true) in
    let attached = c.number.ensures.numbers fits in
    let filters : c.number.result.inner.filters ≡ x + count = ap (λ (r : RegistryValue). r.filters) attached.0 in (
      fits,
      c.number.ensures.notified,
      attached.0,
      attached.1,
      (
        subst (AreNumbers c.number.result.inner.filters) (sym attached.1)
            (subst (λ (n : ℕ). AreNumbers n (numbers_from x count)) (sym filters) (numbers_apart (x + count) x count (omega arith))),
        subst (λ (n : ℕ). n ≤ 64) (sym filters) fits,
      ),
    )
