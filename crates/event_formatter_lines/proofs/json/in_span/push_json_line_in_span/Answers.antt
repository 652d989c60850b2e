use Rattle.std.proofs.Common.{string_bytes}
use Rattle.event_formatter_text.specs.MemberChains.{members_of}
use Rattle.event_formatter_lines.specs.Shown.{plain_shown}
use Rattle.event_formatter_lines.proofs.InSpan.{line_is}
use Rattle.event_formatter_lines.proofs.json.in_span.push_json_line_in_span.Goals as goal

pub returns : goal.returns
returns g c =
    line_is c.args.time.now c.args.level c.args.target.now (plain_shown c.args.span.now)
    (members_of (g.R.RecordFields.values c.args.fields.now)) c.in_default-push_json_members.field-0 (string_bytes c.args.out.now) _ _ _
    c.in-Ok.ensures c.in_default-push_json_members.ensures c.in-Ok-end.ensures
