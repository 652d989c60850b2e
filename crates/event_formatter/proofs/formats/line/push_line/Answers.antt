use Rattle.std.proofs.Common.{ℕ, List, Option, ap, subst, sym, ◌∙◌, string_bytes}
use Rattle.tracing_core_fields.specs.requests.PlainRequests.{plain_event}
use Rattle.event_formatter_text.specs.Lists.{Formats}
use Rattle.event_formatter_lines.specs.Heads.{plain_head}
use Rattle.event_formatter_lines.specs.Json.{json_line}
use Rattle.event_formatter_lines.specs.Shown.{PlainShown}
use Rattle.event_formatter.specs.formats.Contexts.{plain_context}
use Rattle.event_formatter.specs.formats.Lines.{line_behind}
use Rattle.event_formatter.specs.declared.formats.line_format.LineFormat.{LineFormat}
use Rattle.event_formatter.proofs.formats.line.push_line.Goals as goal

pub returns-in-Json : goal.returns-in-Json
returns-in-Json g c =
    let settings = c.args.settings in
    let head = plain_head c.args.head.now in
    let values = (plain_event c.args.event.now).values in
    let context = plain_context g.N.FormatFields.text_of c.args.context.now in
    let json = c.in-Json.json in
    subst (λ (line : Option (List ℕ)). Formats line (string_bytes c.args.out.now) c.push_json_line.result
    (string_bytes c.push_json_line.new.out))
    (ap (λ (loose : List PlainShown). json_line json.shape head loose values) c.loose_spans-loose.ensures
    ∙ ap (λ (shape : LineFormat). line_behind shape c.args.parts settings head context values) (sym c.in-Json.is))
    c.push_json_line.ensures
