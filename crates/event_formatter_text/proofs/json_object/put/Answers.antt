use Rattle.std.proofs.Common.{◌≡◌, ◌++◌, true, false, drop, map, string_bytes, take, rules, sym, ◌∙◌}
use Rattle.event_formatter_text.specs.JsonObjects.{is_first_key, pair_of, put, put_first}
use Rattle.event_formatter_text.proofs.MemberPlaces.{put_new, put_same}
use Rattle.event_formatter_text.proofs.json_object.put.Goals as goal

pub returns-then-has_key : goal.returns-then-has_key
returns-then-has_key c =
    let same : is_first_key (string_bytes c.args.member.key) (drop c.place_of-place.result (map pair_of c.args.members.now.items)) ≡ true =
    search rules in
    let place : put (string_bytes c.args.member.key) (string_bytes c.args.member.value) (map pair_of c.args.members.now.items) ≡ take
    c.place_of-place.result (map pair_of c.args.members.now.items) ++
    put_first (string_bytes c.args.member.key) (string_bytes c.args.member.value)
    (drop c.place_of-place.result (map pair_of c.args.members.now.items)) = search rules in
    put_same c.args.members.now.items c.place_of-place.result c.args.member same ∙ sym place

pub returns : goal.returns
returns c =
    let other : is_first_key (string_bytes c.args.member.key) (drop c.place_of-place.result (map pair_of c.args.members.now.items)) ≡ false
    = search rules in
    let place : put (string_bytes c.args.member.key) (string_bytes c.args.member.value) (map pair_of c.args.members.now.items) ≡ take
    c.place_of-place.result (map pair_of c.args.members.now.items) ++
    put_first (string_bytes c.args.member.key) (string_bytes c.args.member.value)
    (drop c.place_of-place.result (map pair_of c.args.members.now.items)) = search rules in
    let new = put_new c.args.members.now.items c.place_of-place.result c.args.member other ∙ sym place in
    search (rules, new)
