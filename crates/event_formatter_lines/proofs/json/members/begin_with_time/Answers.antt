use Rattle.std.proofs.Common.{codes, string_bytes}
use Rattle.event_formatter_lines.proofs.Members.{begun_with_text}
use Rattle.event_formatter_lines.specs.Json.{key_text}
use Rattle.event_formatter_lines.proofs.json.members.begin_with_time.Goals as goal

pub returns : goal.returns
unfolding key_text
returns c =
    rw c.in-Some.is (begun_with_text (key_text (codes "timestamp")) c.in-Some.time.now (string_bytes c.args.out.now) _ _
    c.in_ok-push_str.ensures.bytes c.in_ok-push_json_rest.ensures)
