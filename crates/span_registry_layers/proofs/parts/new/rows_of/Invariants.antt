use Rattle.std.proofs.Common.{◌≡◌, ◌≤◌, ◌+◌, ◌++◌, List, length, vec_capacity}
use Rattle.span_registry_layers_layers.specs.FilterNumbers.{more_filters}
use Rattle.span_registry_layers_layers.specs.declared.filtered.Filtered.{Filtered}
use Rattle.span_registry_layers.specs.NewStack.{RowsFrom, filters_in}
use Rattle.span_registry_layers.specs.declared.output_slot.OutputSlot.{OutputSlot}
use Rattle.span_registry_layers.proofs.parts.new.rows_of.Given as goal

abbrev pub invariant-loop-left : goal.invariant-loop-left
invariant-loop-left g l =
    record {
      made : (rows : List (OutputSlot (Filtered g.row.L.Denot g.row.F.Denot))) → RowsFrom g.L.Layer l.registry l.left.items rows →
          RowsFrom g.L.Layer l.fn.registry l.fn.outputs.items (l.rows.items ++ rows);
      all : more_filters (filters_in g.L.Layer l.left.items) l.registry ≡ more_filters (filters_in g.L.Layer l.fn.outputs.items)
          l.fn.registry;
      few : l.registry.filters + filters_in g.L.Layer l.left.items ≤ 64;
      room : length l.rows.items + length l.left.items ≤ vec_capacity l.rows;
    }

abbrev pub decreases-loop-left : goal.decreases-loop-left
decreases-loop-left g l = length l.left.items
