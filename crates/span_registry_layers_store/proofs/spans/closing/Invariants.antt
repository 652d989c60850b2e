use Rattle.std.proofs.Common.{◌≤◌, length, drop}
use Rattle.span_registry_layers_store.specs.Registries.{kin_in}
use Rattle.span_registry_layers_store.specs.SpanSlots.{spans_in}
use Rattle.span_registry_layers_store.specs.Spans.{AllStay}
use Rattle.span_registry_layers_store.proofs.spans.closing.Given as goal

abbrev pub invariant-loop-rest : goal.invariant-loop-rest
invariant-loop-rest l = record {
  within : l.rest ≤ length l.index;
  settled : AllStay kin_in l.lanes (spans_in l.slots (drop l.rest l.index));
}

abbrev pub decreases-loop-rest : goal.decreases-loop-rest
decreases-loop-rest l = l.rest
