use Rattle.std.proofs.Common.{◌≡◌, drop, Some}
use Rattle.span_registry_layers.specs.CommonAnswers.{common_hint}
use Rattle.span_registry_layers.specs.OutputSlots.{filters_of}
use Rattle.span_registry_layers.proofs.output_slots.ask_hint.Given as goal

abbrev pub invariant-loop-row : goal.invariant-loop-row
invariant-loop-row g l = common_hint g.F.Filter l.hint (filters_of (drop l.row-index l.rows)) ≡ common_hint g.F.Filter (Some 0)
    (filters_of l.fn.rows)
