use Rattle.std.proofs.Common.{arith, ◌-◌}
use Rattle.event_formatter_lines.proofs.LastSpan.{both}
use Rattle.event_formatter_lines.proofs.json.spans.push_span_members.Goals as goal

pub returns : goal.returns
returns g c =
    let count = c.count-count.ensures in
    both c.args.shape (g.S.ShownSpans.spans c.args.spans.now) (c.count-count.result - 1) _ _ _ _ _ _ _ (omega arith) c.span-last.ensures
    c.in_ok-is_first.ensures c.in_ok-is_first-2.ensures
