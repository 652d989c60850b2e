use Rattle.std.proofs.Common.{List, Option, ap, subst, ◌∙◌, string_bytes}
use Rattle.std.specs.Option.{option_copied}
use Rattle.tracing_core_fields.specs.requests.PlainRequests.{plain_event}
use Rattle.event_formatter_text.specs.Lists.{Formats}
use Rattle.event_formatter_text.specs.Visitors.{pretty_text}
use Rattle.event_formatter_lines.specs.Heads.{PlainHead, plain_head}
use Rattle.event_formatter_lines.specs.Pretty.{PlainPlace, plain_place, pretty_line}
use Rattle.event_formatter_lines.specs.Shown.{PlainShown}
use Rattle.event_formatter.specs.formats.Contexts.{PlainThread, spans_in}
use Rattle.event_formatter.specs.formats.Lines.{pretty_heading, pretty_place}
use Rattle.event_formatter.proofs.formats.line.push_pretty.Goals as goal

pub returns : goal.returns
returns g c =
    let head = plain_head c.args.head.now in
    let own = pretty_heading c.args.pretty c.args.parts head in
    let place = pretty_place c.args.pretty c.args.parts (option_copied c.args.context.now.thread.name) head in
    let text = pretty_text c.args.settings (plain_event c.args.event.now).values in
    let loose = spans_in c.loose_spans-loose.result in
    subst (λ (line : Option (List _)). Formats line (string_bytes c.args.out.now) c.push_pretty_line.result
    (string_bytes c.push_pretty_line.new.out))
    (ap (λ (h : PlainHead). pretty_line h (plain_place c.pretty_place-place.result) c.args.parts.target loose text)
    c.pretty_heading-heading.ensures
    ∙ ap (λ (p : PlainPlace). pretty_line own p c.args.parts.target loose text) (c.pretty_place-place.ensures ∙
    ap (λ (t : PlainThread). pretty_place c.args.pretty c.args.parts t.name head) c.thread.ensures)
    ∙ ap (λ (spans : List PlainShown). pretty_line own place c.args.parts.target spans text) c.loose_spans-loose.ensures)
    c.push_pretty_line.ensures
