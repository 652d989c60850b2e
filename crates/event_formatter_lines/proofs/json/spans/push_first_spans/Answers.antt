use Rattle.std.proofs.Common.{arith, codes}
use Rattle.event_formatter_lines.proofs.Separators.{turned_with}
use Rattle.event_formatter_lines.specs.Json.{span_object}
use Rattle.event_formatter_lines.specs.Shown.{nothing_shown}
use Rattle.event_formatter_lines.proofs.json.spans.push_first_spans.Goals as goal

pub loop-index-preserved : goal.loop-index-preserved
loop-index-preserved g c =
    turned_with span_object (codes ",") (g.S.ShownSpans.spans c.args.spans.now) c.loop-index.index nothing_shown _ _ _ _ (omega arith)
    c.span-span.ensures c.loop-index.invariant c.in_ok-push_listed_span.ensures
