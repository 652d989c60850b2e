use Rattle.span_registry_layers_store.proofs.FilterBits.{unnamed_set}
use Rattle.span_registry_layers_store.proofs.filter_map.FilterMap.with.Goals as goal

pub returns-then-filter-ge64 : goal.returns-then-filter-ge64
returns-then-filter-ge64 c =
    rw (← c.self.view_is) (unnamed_set c.self.inside.bits c.args.filter.index c.args.passes c.if-filter-ge64.true)

pub returns-then-passes : goal.returns-then-passes
returns-then-passes c = rw (← c.self.view_is, c.if-passes.true) c.with_bit.ensures

pub returns : goal.returns
returns c = rw (← c.self.view_is, c.if-passes.false) c.without_bit.ensures
