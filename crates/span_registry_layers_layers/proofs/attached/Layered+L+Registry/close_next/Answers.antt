use Rattle.std.proofs.Common.{ℕ, ◌∙◌, ap, subst}
use Rattle.std.specs.Prelude.{MatchOption}
use Rattle.span_registry_layers_store.specs.Registries.{RegistryValue}
use Rattle.span_registry_layers_store.specs.RegistryCalls.{IsNext, IsSettled}
use Rattle.span_registry_layers_layers.specs.FilterViews.{Closed, View, left}
use Rattle.span_registry_layers_layers.specs.Notices.{Spanned}
use Rattle.span_registry_layers_layers.specs.Trees.{whole}
use Rattle.span_registry_layers_layers.proofs.NextSpanClose.{closed_one}
use Rattle.span_registry_layers_layers.proofs.attached.Layered+L+Registry.close_next.Goals as goal

pub returns : goal.returns
returns g c =
    let s = c.args.self.now in
    let id = c.in-Some.span in
    let z = left c.on_close.new.context in
    let next : IsNext s.inner id = subst (λ o. MatchOption o (IsSettled s.inner) (λ (n : ℕ). IsNext s.inner n)) c.in-Some.is
    c.closing.ensures.next in
    let seen = c.new.ensures.view ∙ ap (λ (x : RegistryValue). whole c.args.at x) c.closing.ensures.same in
    let heard = subst (λ (v : View). g.L.Layer.told s.layer (Spanned id (Closed id) v z) c.on_close.new.self) seen
    c.on_close.ensures.notified in
    closed_one g.L.Layer c.args.at s id z c.forget-span.result (record s { layer = c.on_close.new.self; inner = c.forget-span.new.self })
    next heard c.forget-span.ensures
