use Rattle.std.proofs.Common.{◌≡◌, List, ℕ, ◌++◌, OnOk, codes, rules, string_bytes, subst, sym}
use Rattle.event_formatter_lines.specs.Shown.{plain_shown}
use Rattle.event_formatter_lines.proofs.InSpan.{object_is, twice_is}
use Rattle.event_formatter_lines.proofs.json.in_span.push_span_twice.Goals as goal

pub returns : goal.returns
returns c =
    let old = string_bytes c.args.out.now in
    let begun = c.in-Some.begun.now in
    let span = plain_shown c.args.span.now in
    let last = c.push_members_twice in
    let object = object_is span begun (sym c.in-Some.ensures) (search rules) (search rules) in
    subst (λ (object : List ℕ). OnOk last.result (string_bytes last.new.out ≡ old ++
    (codes "\",\"span\":" ++ object ++ codes ",\"spans\":[" ++ object ++ codes "]}\n"))) (sym object)
    (subst (λ (text : List ℕ). OnOk last.result (string_bytes last.new.out ≡ old ++ text)) (twice_is begun span.name) last.ensures)
