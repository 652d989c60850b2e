use Rattle.event_formatter_text.proofs.KeptMembers.{kept}
use Rattle.event_formatter_text.proofs.GivenMembers.{given, refused}
use Rattle.event_formatter_text.proofs.members.with_fields.Goals as goal

pub returns-in-Ok : goal.returns-in-Ok
returns-in-Ok g c = let k = kept c.record.ensures in given _ c.record.new.visitor.members (rw c.in-Ok.is at k)

pub returns-in-Err : goal.returns-in-Err
returns-in-Err g c = let k = kept c.record.ensures in refused _ _ c.in-Err.error (rw c.in-Err.is at k)
