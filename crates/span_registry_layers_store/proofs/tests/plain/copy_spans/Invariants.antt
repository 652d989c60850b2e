use Rattle.std.proofs.Common.{◌≡◌, map, take}
use Rattle.span_registry_layers_store.specs.Copies.{plain_row, row_of}
use Rattle.span_registry_layers_store.specs.Registries.{plain_span}
use Rattle.span_registry_layers_store.proofs.tests.plain.copy_spans.Given as goal

abbrev pub invariant-loop-span : goal.invariant-loop-span
invariant-loop-span l = map plain_row l.rows.items ≡ map row_of (map plain_span (take l.span-index l.spans))
