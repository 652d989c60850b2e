use Rattle.span_registry_layers_store.proofs.FilterBits.{bit_passes}
use Rattle.span_registry_layers_store.proofs.filter_map.has_bit.Goals as goal

pub returns : goal.returns
returns c = bit_passes c.args.bits c.args.place c.requires
