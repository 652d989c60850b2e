use Rattle.event_formatter_lines.proofs.Members.{chained}
use Rattle.event_formatter_lines.proofs.json.push_last_members.Goals as goal

pub returns : goal.returns
returns g c = chained (chained c.in_ok-is_first.ensures c.in_ok-is_first-2.ensures) c.in_ok-is_first-3.ensures
