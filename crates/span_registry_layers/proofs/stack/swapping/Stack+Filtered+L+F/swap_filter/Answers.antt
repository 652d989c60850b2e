use Rattle.std.specs.Prelude.{refl, slice_get}
use Rattle.span_registry_layers.proofs.Swaps.{swapped_numbers, swapped_word}
use Rattle.span_registry_layers.proofs.stack.swapping.Stack+Filtered+L+F.swap_filter.Goals as goal

pub returns-clause-kept : goal.returns-clause-kept
returns-clause-kept g c =
    swapped_word g.F.Filter (slice_get c.args.self.now.rows c.args.output) c.args.output c.args.filter.now c.args.self.now
    c.hand_filter.result c.hand_filter.new.filter c.hand_filter.new.self c.hand_filter.ensures

pub returns-clause-numbers : goal.returns-clause-numbers
returns-clause-numbers g c =
    swapped_numbers g.L.Layer g.F.Filter (slice_get c.args.self.now.rows c.args.output) c.args.output c.args.filter.now c.args.self.now
    c.hand_filter.result c.hand_filter.new.filter c.hand_filter.new.self refl c.hand_filter.ensures
