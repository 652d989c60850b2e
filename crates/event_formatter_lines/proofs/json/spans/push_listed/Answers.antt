use Rattle.std.proofs.Common.{arith, ◌≡◌, ◌++◌, codes, string_bytes}
use Rattle.std.proofs.lemmas.Grind.{common_steps}
use Rattle.std.specs.List.{join_by}
use Rattle.event_formatter_lines.proofs.Separators.{all_turned}
use Rattle.event_formatter_lines.specs.Json.{span_object}
use Rattle.event_formatter_lines.specs.Shown.{nothing_shown}
use Rattle.event_formatter_lines.proofs.json.spans.push_listed.Goals as goal

pub returns : goal.returns
returns g c =
    let spans = g.S.ShownSpans.spans c.args.spans.now in
    let inner : string_bytes c.push_listed_span.new.out ≡ string_bytes c.args.out.now ++ join_by span_object (codes ",") spans =
    all_turned span_object (codes ",") spans c.args.place nothing_shown _ _ _ _ c.requires.place c.requires.last
    c.in_ok-push_first_spans.ensures c.in_ok-push_listed_span.ensures in
    grind (arith, common_steps)
