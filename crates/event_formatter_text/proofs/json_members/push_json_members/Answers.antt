use Rattle.event_formatter_text.proofs.MemberChains.{appended}
use Rattle.event_formatter_text.proofs.json_members.push_json_members.Goals as goal

pub returns-in-Ok : goal.returns-in-Ok
returns-in-Ok g c =
    let a = appended (g.R.RecordFields.values c.args.fields.now) _ _ c.new.result c.new-visitor.result c.record.new.visitor _
    c.record.result _ c.new.ensures.same c.new.ensures.text c.new-visitor.ensures.writer c.new-visitor.ensures.empty c.out-1.given.1
    c.record.ensures in
    rw c.in-Ok.is at a

pub returns-in-Err : goal.returns-in-Err
returns-in-Err g c =
    let a = appended (g.R.RecordFields.values c.args.fields.now) _ _ c.new.result c.new-visitor.result c.record.new.visitor _
    c.record.result _ c.new.ensures.same c.new.ensures.text c.new-visitor.ensures.writer c.new-visitor.ensures.empty
    c.in-Err.out-in-Err-1-own.given.1 c.record.ensures in
    rw c.in-Err.is at a
