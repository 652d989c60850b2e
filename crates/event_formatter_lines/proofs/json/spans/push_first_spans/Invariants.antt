use Rattle.std.proofs.Common.{◌≡◌, ◌++◌, codes, string_bytes, take}
use Rattle.std.specs.List.{join_by}
use Rattle.event_formatter_lines.specs.Json.{span_object}
use Rattle.event_formatter_lines.proofs.json.spans.push_first_spans.Given as goal

abbrev pub invariant-loop-index : goal.invariant-loop-index
invariant-loop-index g l = string_bytes l.out ≡ string_bytes l.fn.out ++
    join_by span_object (codes ",") (take l.index (g.S.ShownSpans.spans l.spans))
