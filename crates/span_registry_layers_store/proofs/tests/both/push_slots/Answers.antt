use Rattle.std.proofs.Common.{◌∙◌, ap, map}
use Rattle.span_registry_layers_store.specs.Copies.{plain_row}
use Rattle.span_registry_layers_store.proofs.SpanRows.{past_rows}
use Rattle.span_registry_layers_store.proofs.tests.both.push_slots.Goals as goal

pub push-requires : goal.push-requires
push-requires c = past_rows _ _ _ (ap (map plain_row) c.as_slice.ensures.value ∙ c.in_ok-rows.ensures)
    (c.is_past.ensures c.if-is_past.true)
