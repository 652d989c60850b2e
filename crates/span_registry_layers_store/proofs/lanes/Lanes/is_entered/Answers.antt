use Rattle.std.proofs.Common.{sym, ◌∙◌}
use Rattle.span_registry_layers_store.specs.Lanes.{remainder_of, plain_lanes}
use Rattle.span_registry_layers_store.proofs.EntryCounts.{none_counted, not_counted}
use Rattle.span_registry_layers_store.proofs.lanes.Lanes.is_entered.Goals as goal

pub returns-else-is_counted : goal.returns-else-is_counted
returns-else-is_counted c =
    let counts = c.self.inside.counts.items in
    let none = not_counted c.as_slice.result.now counts (remainder_of c.args.id) c.is_counted.result c.as_slice.ensures.value
    c.is_counted.ensures c.if-is_counted.false in
    rw (← c.self.view_is) (c.if-is_counted.false ∙
    sym (none_counted (plain_lanes c.self.inside.lanes.items) counts c.args.id c.self.invariant none))
