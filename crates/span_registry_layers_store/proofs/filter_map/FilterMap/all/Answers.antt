use Rattle.span_registry_layers_store.proofs.FilterBits.{all_set}
use Rattle.span_registry_layers_store.proofs.filter_map.FilterMap.all.Goals as goal

pub returns : goal.returns
returns c = all_set
