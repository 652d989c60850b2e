use Rattle.std.proofs.Common.{◌<◌, map, take}
use Rattle.std.specs.List.{AllByRecursion}
use Rattle.span_registry_layers_store.specs.Copies.{PlainRow, plain_row}
use Rattle.span_registry_layers_store.proofs.tests.both.is_past.Given as goal

abbrev pub invariant-loop-row : goal.invariant-loop-row
invariant-loop-row l = AllByRecursion (λ (r : PlainRow). r.kin.id < l.id) (map plain_row (take l.row-index l.rows))
