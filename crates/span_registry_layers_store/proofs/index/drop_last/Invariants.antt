use Rattle.std.proofs.Common.{◌≡◌, vec_len}
use Rattle.span_registry_layers_store.specs.SpanSlots.{AreIndexed, entry_kin, standing}
use Rattle.span_registry_layers_store.specs.Spans.{Rises}
use Rattle.span_registry_layers_store.proofs.index.drop_last.Given as goal

abbrev pub invariant-loop-entry : goal.invariant-loop-entry
invariant-loop-entry l = record {
  same : standing l.slots l.index.items ≡ standing l.slots l.fn.index.items;
  rise : Rises entry_kin 0 l.index.items;
  indexed : AreIndexed l.slots l.index.items;
}

abbrev pub decreases-loop-entry : goal.decreases-loop-entry
decreases-loop-entry l = vec_len l.index
