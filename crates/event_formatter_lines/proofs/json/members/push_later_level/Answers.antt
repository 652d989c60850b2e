use Rattle.std.proofs.Common.{codes, rules, string_bytes}
use Rattle.event_formatter_lines.proofs.Levels.{appended, debug, error, info, warn}
use Rattle.event_formatter_lines.proofs.json.members.push_later_level.Goals as goal

pub returns-then-eq : goal.returns-then-eq
returns-then-eq c =
    let push = c.push_str in
    rw (info c.args.level (search rules)) (appended push.result (string_bytes c.args.out.now) (codes ",\"level\":\"INFO\"")
    (string_bytes push.new.self) push.ensures.bytes)

pub returns-then-eq-2 : goal.returns-then-eq-2
returns-then-eq-2 c =
    let push = c.push_str-then-eq-2 in
    rw (warn c.args.level (search rules)) (appended push.result (string_bytes c.args.out.now) (codes ",\"level\":\"WARN\"")
    (string_bytes push.new.self) push.ensures.bytes)

pub returns-then-eq-3 : goal.returns-then-eq-3
returns-then-eq-3 c =
    let push = c.push_str-then-eq-3 in
    rw (error c.args.level (search rules)) (appended push.result (string_bytes c.args.out.now) (codes ",\"level\":\"ERROR\"")
    (string_bytes push.new.self) push.ensures.bytes)

pub returns-then-eq-4 : goal.returns-then-eq-4
returns-then-eq-4 c =
    let push = c.push_str-then-eq-4 in
    rw (debug c.args.level (search rules)) (appended push.result (string_bytes c.args.out.now) (codes ",\"level\":\"DEBUG\"")
    (string_bytes push.new.self) push.ensures.bytes)
