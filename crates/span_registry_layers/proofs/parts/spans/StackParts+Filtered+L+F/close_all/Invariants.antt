use Rattle.std.proofs.Common.{◌≡◌, List, length}
use Rattle.span_registry_layers_store.specs.SlotIndependence.{SameButSlots, ids_of}
use Rattle.span_registry_layers_store.specs.Registries.{RegistryValue, closing_in, swept}
use Rattle.span_registry_layers_layers.specs.declared.filtered.Filtered.{Filtered}
use Rattle.span_registry_layers.specs.SpanNotices.{ClosesEach}
use Rattle.span_registry_layers.specs.Stacks.{plain_stack}
use Rattle.span_registry_layers.specs.declared.output_slot.OutputSlot.{OutputSlot}
use Rattle.span_registry_layers.proofs.parts.spans.StackParts+Filtered+L+F.close_all.Given as goal

abbrev pub invariant-loop-at : goal.invariant-loop-at
invariant-loop-at g l =
    record {
      each : (y : RegistryValue) (later : List (OutputSlot (Filtered g.row.L.Denot g.row.F.Denot))) →
          ClosesEach g.F.Filter g.L.Layer (ids_of (closing_in l.self.registry)) l.at l.self.registry l.self.rows.items y later →
          ClosesEach g.F.Filter g.L.Layer (ids_of (closing_in l.fn.self.registry)) l.at l.fn.self.registry l.fn.self.rows.items y later;
      same : SameButSlots (swept l.fn.self.registry) (swept l.self.registry);
      rest : plain_stack l.self ≡ record (plain_stack l.fn.self) { registry = l.self.registry; rows = l.self.rows.items };
    }

abbrev pub decreases-loop-at : goal.decreases-loop-at
decreases-loop-at g l = length (ids_of (closing_in l.self.registry))
