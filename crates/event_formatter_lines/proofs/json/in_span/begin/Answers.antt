use Rattle.std.proofs.Common.{◌≡◌, List, ℕ, ◌++◌, OnOk, codes, string_bytes, subst}
use Rattle.tracing_core_fields.specs.Level.{level_name}
use Rattle.event_formatter_text.specs.Escapes.{escaped, json_char, json_string}
use Rattle.event_formatter_lines.specs.Json.{key_text}
use Rattle.event_formatter_lines.proofs.InSpan.{before_is, behind, joined_to}
use Rattle.event_formatter_lines.proofs.json.in_span.begin.Goals as goal

pub returns : goal.returns
returns c =
    let old = string_bytes c.args.out.now in
    let key = codes "{\"timestamp\":\"" in
    let time = escaped json_char c.args.time.now in
    let mid = string_bytes c.push_json_inside.new.out in
    let last = c.push_level in
    subst (λ (text : List ℕ). OnOk last.result (string_bytes last.new.out ≡ old ++ text)) (before_is c.args.time.now c.args.level)
    (behind last.result old (key ++ time)
    (codes "\"" ++ (codes "," ++ (key_text (codes "level") ++ json_string (level_name c.args.level))) ++ codes ",\"fields\":{") mid (string_bytes last.new.out)
    (joined_to old key time _ mid c.in-Ok.ensures.bytes c.in-Ok-push_json_inside.ensures) last.ensures)
