use Rattle.std.proofs.Common.{rules}
use Rattle.event_formatter_text.proofs.MemberPlaces.{put_here, put_later}
use Rattle.event_formatter_text.proofs.json_object.place_of.Goals as goal

pub loop-place-preserved : goal.loop-place-preserved
loop-place-preserved c = λ value. put_later c.args.key.now value c.args.members.now c.loop-place.place c.index-members-place.result
    c.loop-place-test.true c.index-members-place.is (search rules) (c.loop-place.invariant value)

pub returns-then-not-is_before-clause-place : goal.returns-then-not-is_before-clause-place
returns-then-not-is_before-clause-place c = λ value. put_here c.args.key.now value c.args.members.now c.loop-place.place
    c.index-members-place.result c.loop-place-test.true c.index-members-place.is (search rules) (c.loop-place.invariant value)
