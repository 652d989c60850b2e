use Rattle.std.proofs.Common.{refl}
use Rattle.event_formatter_lines.proofs.Lines.{written}
use Rattle.event_formatter_lines.specs.Heads.{plain_head}
use Rattle.event_formatter_lines.specs.Json.{field_members, first_members, last_members}
use Rattle.event_formatter_lines.proofs.json.push_json_line.Goals as goal

pub returns : goal.returns
returns g c =
    let head = plain_head c.args.head.now in
    written (first_members head) (last_members c.args.shape head (g.S.ShownSpans.spans c.args.loose.now))
    (field_members c.args.shape.flatten_event (g.R.RecordFields.values c.args.fields.now)) _ _ _ _ _ _ _ _ _ refl
    c.in_ok-is_first.ensures c.in_ok-is_first-2.ensures c.in_ok-push_last_members.ensures c.in_ok-end_line.ensures
