use Rattle.std.proofs.Common.{map, arith, ◌+◌}
use Rattle.span_registry_layers_store.specs.Copies.{plain_row}
use Rattle.span_registry_layers_store.proofs.SpanRows.{rows_turn}
use Rattle.span_registry_layers_store.proofs.table.copy_spans.Goals as goal

pub loop-entry-preserved : goal.loop-entry-preserved
loop-entry-preserved c = rows_turn c.args.slots.now c.args.index.now c.loop-entry.entry-index (c.loop-entry.entry-index + 1)
    c.entry-item.result (map plain_row c.loop-entry.rows.items) (map plain_row c.push_entry_row.new.rows.items) (omega arith)
    c.loop-entry-test.true c.entry-item.is c.loop-entry.invariant c.in_ok-push_entry_row.ensures
