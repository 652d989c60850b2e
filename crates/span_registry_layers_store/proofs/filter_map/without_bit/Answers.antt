use Rattle.span_registry_layers_store.proofs.FilterBits.{bit_cleared}
use Rattle.span_registry_layers_store.proofs.filter_map.without_bit.Goals as goal

pub returns : goal.returns
returns c = bit_cleared c.args.bits c.args.place c.requires
