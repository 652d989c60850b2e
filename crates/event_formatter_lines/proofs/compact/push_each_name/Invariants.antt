use Rattle.std.proofs.Common.{◌≡◌, ◌++◌, string_bytes, take}
use Rattle.std.specs.List.{flat_map}
use Rattle.event_formatter_lines.specs.Compact.{name_piece}
use Rattle.event_formatter_lines.proofs.compact.push_each_name.Given as goal

abbrev pub invariant-loop-index : goal.invariant-loop-index
invariant-loop-index g l = string_bytes l.out ≡ string_bytes l.fn.out ++
    flat_map (name_piece l.settings) (take l.index (g.S.ShownSpans.spans l.spans))
