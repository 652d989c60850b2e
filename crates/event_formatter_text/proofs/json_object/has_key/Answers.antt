use Rattle.std.proofs.Common.{rules}
use Rattle.event_formatter_text.proofs.MemberPlaces.{key_at}
use Rattle.event_formatter_text.proofs.json_object.has_key.Goals as goal

pub returns-then-place-members : goal.returns-then-place-members
returns-then-place-members c =
    rw (key_at c.args.key.now c.args.members.now c.args.place c.index-members-place.result c.if-place-members.true c.index-members-place.is)
    (search rules)
