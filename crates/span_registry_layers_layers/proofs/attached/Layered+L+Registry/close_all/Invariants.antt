use Rattle.std.proofs.Common.{length}
use Rattle.span_registry_layers_store.specs.SlotIndependence.{SameButSlots, ids_of}
use Rattle.span_registry_layers_store.specs.Registries.{RegistryValue, closing_in, swept}
use Rattle.span_registry_layers_layers.specs.Trees.{ClosesEach}
use Rattle.span_registry_layers_layers.proofs.attached.Layered+L+Registry.close_all.Given as goal

abbrev pub invariant-loop-at : goal.invariant-loop-at
invariant-loop-at g l =
    record {
      each : (y : RegistryValue) (later : g.row.L.Denot) → ClosesEach g.L.Layer (ids_of (closing_in l.self.inner)) l.at l.self.inner
          l.self.layer y later →
          ClosesEach g.L.Layer (ids_of (closing_in l.fn.self.inner)) l.at l.fn.self.inner l.fn.self.layer y later;
      same : SameButSlots (swept l.fn.self.inner) (swept l.self.inner);
    }

abbrev pub decreases-loop-at : goal.decreases-loop-at
decreases-loop-at g l = length (ids_of (closing_in l.self.inner))
