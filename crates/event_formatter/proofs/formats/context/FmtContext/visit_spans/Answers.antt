use Rattle.std.proofs.Common.{ℕ, List, subst}
use Rattle.std.specs.Fn.{CalledAt}
use Rattle.span_registry_layers_layers.specs.FilterViews.{view}
use Rattle.event_formatter.specs.formats.EventSpans.{HandsEach, refs_at}
use Rattle.event_formatter.proofs.formats.context.FmtContext.visit_spans.Goals as goal

pub returns : goal.returns
returns g c =
    subst (λ (ids : List ℕ). HandsEach (λ p span answer q. CalledAt g.F.FnMut p span answer q)
    (refs_at (view c.args.self.now.context.now) ids) c.args.f c.hand_each.result)
    c.strict_ids.ensures c.hand_each.ensures
