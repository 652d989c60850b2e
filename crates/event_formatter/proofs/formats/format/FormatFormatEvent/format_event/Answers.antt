use Rattle.std.proofs.Common.{ℕ, List, Option, ap, subst, sym, ◌∙◌, string_bytes}
use Rattle.tracing_core_fields.specs.requests.PlainRequests.{plain_event}
use Rattle.event_formatter_text.specs.Lists.{Formats}
use Rattle.event_formatter_text.specs.declared.settings.Settings.{Settings}
use Rattle.event_formatter.specs.formats.Contexts.{plain_context}
use Rattle.event_formatter.specs.formats.Lines.{line_in, with_styles}
use Rattle.event_formatter.specs.declared.formats.line_format.LineFormat.{LineFormat}
use Rattle.event_formatter.proofs.formats.format.FormatFormatEvent.format_event.Goals as goal

pub returns-then-not-settings-clause-text : goal.returns-then-not-settings-clause-text
returns-then-not-settings-clause-text g c =
    let context = plain_context g.N.FormatFields.text_of c.args.context.now in
    let event = plain_event c.args.event.now in
    let time = g.T.FormatTime.text_at c.args.self.now.timer context.seconds context.nanoseconds in
    let full = c.is_full.ensures c.if-is_full.true in
    let usual = c.are_default.ensures c.if-are_default.true in
    let parts = c.args.self.now.parts in
    subst (λ (line : Option (List ℕ)). Formats line (string_bytes c.args.out.now) c.push_usual.result (string_bytes c.push_usual.new.out))
    ((λ i. line_in (sym full i) (sym usual i) c.with_styles-settings.result time context event)
    ∙ ap (λ (s : Settings). line_in c.line_format-shape.result parts s time context event) c.with_styles-settings.ensures
    ∙ ap (λ (shape : LineFormat). line_in shape parts (with_styles c.args.self.now.ansi c.args.settings) time context event)
    c.line_format-shape.ensures)
    c.push_usual.ensures.text
