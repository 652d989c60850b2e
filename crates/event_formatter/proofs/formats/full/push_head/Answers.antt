use Rattle.std.proofs.Common.{◌++◌, ℕ, List, ap, ◌∙◌, Some, string_bytes}
use Rattle.tracing_core_fields.specs.Metadata.{plain_metadata}
use Rattle.tracing_core_moments.specs.declared.at.At.{At}
use Rattle.event_formatter_lines.specs.Full.{spans_text, target_piece}
use Rattle.event_formatter_lines.specs.Heads.{level_piece, time_piece}
use Rattle.event_formatter_lines.specs.Shown.{PlainShown}
use Rattle.event_formatter.specs.formats.Contexts.{plain_context}
use Rattle.event_formatter.specs.formats.Headings.{time_or_unknown}
use Rattle.event_formatter.proofs.formats.LinePieces.{in_turn}
use Rattle.event_formatter.proofs.formats.full.push_head.Goals as goal

pub returns-clause-text : goal.returns-clause-text
returns-clause-text g c =
    let settings = c.args.settings in
    let m = plain_metadata c.args.metadata.now in
    let context = plain_context g.N.FormatFields.text_of c.args.context.now in
    let old = string_bytes c.args.out.now in
    let levelled = string_bytes c.push_time_and_level.new.out in
    let spanned = string_bytes c.push_scope.new.out in
    let time = λ (at : At). time_piece settings
    (Some (time_or_unknown (g.T.FormatTime.text_at c.args.timer.now at.seconds at.nanoseconds))) in
    in_turn old
    (time c.args.context.now.context.now.at)
    (level_piece settings (Some m.level))
    (spans_text settings context.strict)
    (target_piece settings (Some m.target))
    levelled spanned
    (string_bytes c.push_target.new.out)
    (c.in-Ok.ensures.text ∙ ap (λ (at : At). old ++ (time at ++ level_piece settings (Some m.level))) c.at-at.ensures)
    (c.in-Ok-push_scope.ensures ∙ ap (λ (spans : List PlainShown). levelled ++ spans_text settings spans) c.strict_spans.ensures)
    (c.in_ok-push_target.ensures ∙ ap (λ (target : List ℕ). spanned ++ target_piece settings (Some target)) c.target.ensures)
