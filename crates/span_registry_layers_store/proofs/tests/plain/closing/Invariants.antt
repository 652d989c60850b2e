use Rattle.std.proofs.Common.{◌≤◌, length, drop}
use Rattle.span_registry_layers_store.specs.Lanes.{plain_lanes}
use Rattle.span_registry_layers_store.specs.Places.{kin_of}
use Rattle.span_registry_layers_store.specs.Spans.{AllStay}
use Rattle.span_registry_layers_store.proofs.tests.plain.closing.Given as goal

abbrev pub invariant-loop-rest : goal.invariant-loop-rest
invariant-loop-rest l = record {
  within : l.rest ≤ length l.spans;
  settled : AllStay kin_of (plain_lanes l.lanes) (drop l.rest l.spans);
}

abbrev pub decreases-loop-rest : goal.decreases-loop-rest
decreases-loop-rest l = l.rest
