use Rattle.span_registry_layers_store.proofs.FilterBits.{unnamed_passes}
use Rattle.span_registry_layers_store.proofs.filter_map.FilterMap.passes.Goals as goal

pub returns-then-filter-ge64 : goal.returns-then-filter-ge64
returns-then-filter-ge64 c = rw (← c.self.view_is) (unnamed_passes c.self.inside.bits c.args.filter.index c.if-filter-ge64.true)

pub returns : goal.returns
returns c = rw (← c.self.view_is) c.has_bit.ensures
