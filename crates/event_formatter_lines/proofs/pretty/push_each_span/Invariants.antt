use Rattle.std.proofs.Common.{◌≡◌, ◌++◌, string_bytes, drop}
use Rattle.event_formatter_lines.specs.Pretty.{from_leaf}
use Rattle.event_formatter_lines.proofs.pretty.push_each_span.Given as goal

abbrev pub invariant-loop-index : goal.invariant-loop-index
invariant-loop-index g l = string_bytes l.out ≡ string_bytes l.fn.out ++
    from_leaf l.shows_target (drop l.index (g.S.ShownSpans.spans l.spans))
