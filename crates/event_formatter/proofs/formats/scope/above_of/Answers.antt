use Rattle.std.proofs.Common.{◌<◌, ◌∷◌, ℕ, List, map, ap, sym, subst, ◌∙◌}
use Rattle.span_registry_layers_store.specs.References.{PlainRef, plain_ref}
use Rattle.event_formatter.specs.formats.ScopeIds.{id_of_ref}
use Rattle.event_formatter.proofs.formats.Scopes.{begins}
use Rattle.event_formatter.proofs.formats.scope.above_of.Goals as goal

pub returns : goal.returns
returns c =
    let r = plain_ref c.args.leaf.now in
    begins r c.requires (subst (λ (id : ℕ). 0 < id) c.id_of-id.ensures.same c.id_of-id.ensures.number)
    ∙ ap (λ (above : List PlainRef). r.span.kin.id ∷ map id_of_ref above) (sym c.ancestors.ensures)
