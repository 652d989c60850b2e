use Rattle.span_registry_layers_store.proofs.FilterBits.{bit_set}
use Rattle.span_registry_layers_store.proofs.filter_map.with_bit.Goals as goal

pub returns : goal.returns
returns c = bit_set c.args.bits c.args.place c.requires
