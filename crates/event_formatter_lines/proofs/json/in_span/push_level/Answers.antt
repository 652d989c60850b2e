use Rattle.std.proofs.Common.{◌≡◌, List, ℕ, ◌++◌, OnOk, codes, rules, string_bytes, subst, sym}
use Rattle.event_formatter_lines.proofs.Levels.{appended, info}
use Rattle.event_formatter_lines.proofs.json.in_span.push_level.Goals as goal

pub returns-then-eq : goal.returns-then-eq
returns-then-eq c =
    let push = c.push_str in
    let old = string_bytes c.args.out.now in
    let new = string_bytes push.new.self in
    subst (λ (level : List ℕ). OnOk push.result
    (new ≡ old ++ (codes "\"" ++ level ++ codes ",\"fields\":{"))) (sym (info c.args.level (search rules)))
    (appended push.result old (codes "\",\"level\":\"INFO\",\"fields\":{") new push.ensures.bytes)
