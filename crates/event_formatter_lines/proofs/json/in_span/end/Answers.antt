use Rattle.std.proofs.Common.{◌≡◌, List, ℕ, ◌++◌, OnOk, codes, string_bytes, subst}
use Rattle.event_formatter_text.specs.Escapes.{escaped, json_char}
use Rattle.event_formatter_lines.specs.Json.{span_object}
use Rattle.event_formatter_lines.specs.Shown.{plain_shown}
use Rattle.event_formatter_lines.proofs.InSpan.{behind, behind_is, joined_to}
use Rattle.event_formatter_lines.proofs.json.in_span.end.Goals as goal

pub returns : goal.returns
returns c =
    let old = string_bytes c.args.out.now in
    let key = codes "},\"target\":\"" in
    let target = escaped json_char c.args.target.now in
    let span = span_object (plain_shown c.args.span.now) in
    let mid = string_bytes c.push_json_inside.new.out in
    let last = c.push_span_twice in
    subst (λ (text : List ℕ). OnOk last.result (string_bytes last.new.out ≡ old ++ text))
    (behind_is c.args.target.now (plain_shown c.args.span.now))
    (behind last.result old (key ++ target)
    (codes "\",\"span\":" ++ span ++ codes ",\"spans\":[" ++ span ++ codes "]}\n") mid (string_bytes last.new.out)
    (joined_to old key target _ mid c.in-Ok.ensures.bytes c.in-Ok-push_json_inside.ensures) last.ensures)
