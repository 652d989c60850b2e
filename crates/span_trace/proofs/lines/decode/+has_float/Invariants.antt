use Rattle.std.proofs.Common.{◌≡◌, drop}
use Rattle.serde_json.specs.View.{items_view}
use Rattle.serde_json.specs.Written.{items_have_float}
use Rattle.span_trace.proofs.lines.decode.+has_float.Given as goal

abbrev pub invariant-loop-item : goal.invariant-loop-item
invariant-loop-item l = items_have_float (items_view (drop l.item-index l.item-items)) ≡ items_have_float (items_view l.item-items)

abbrev pub invariant-loop-item-2 : goal.invariant-loop-item-2
invariant-loop-item-2 l = items_have_float (items_view l.item-iterator) ≡ items_have_float (items_view l.initial.item-iterator)
