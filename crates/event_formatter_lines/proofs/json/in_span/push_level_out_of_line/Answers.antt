use Rattle.std.proofs.Common.{◌++◌, codes, string_bytes}
use Rattle.tracing_core_fields.specs.Level.{level_name}
use Rattle.event_formatter_text.specs.Escapes.{json_string}
use Rattle.event_formatter_lines.specs.Json.{key_text}
use Rattle.event_formatter_lines.proofs.InSpan.{behind, joined_to}
use Rattle.event_formatter_lines.proofs.Levels.{appended}
use Rattle.event_formatter_lines.proofs.json.in_span.push_level_out_of_line.Goals as goal

pub returns : goal.returns
returns c =
    let old = string_bytes c.args.out.now in
    let level = codes "," ++ (key_text (codes "level") ++ json_string (level_name c.args.level)) in
    let last = c.push_str-2 in
    let mid = string_bytes c.push_later_level.new.out in
    behind last.result old (codes "\"" ++ level) (codes ",\"fields\":{") mid (string_bytes last.new.self)
    (joined_to old (codes "\"") level _ mid c.in_ok-push_str.ensures.bytes c.in_ok-push_later_level.ensures)
    (appended last.result mid (codes ",\"fields\":{") (string_bytes last.new.self) last.ensures.bytes)
