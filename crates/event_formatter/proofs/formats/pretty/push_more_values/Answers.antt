use Rattle.std.proofs.Common.{codes}
use Rattle.event_formatter_text.specs.Lists.{pieces_text}
use Rattle.event_formatter_text.specs.Visitors.{pretty_piece, frame_of}
use Rattle.event_formatter_text.specs.Writers.{written}
use Rattle.event_formatter_text.proofs.PieceVisits.{fields_visited}
use Rattle.event_formatter.proofs.formats.VisitorText.{wrote_behind}
use Rattle.event_formatter.proofs.formats.pretty.push_more_values.Goals as goal

pub returns : goal.returns
returns g c =
    let v = fields_visited (λ v. written v.writer) (λ v. v.is_empty) (λ v. frame_of v.writer) (λ s. codes ", ")
    (λ s name value. pretty_piece s.settings name value) c.record.ensures in
    let values = g.R.RecordFields.values c.args.fields.now in
    let made = c.with_settings.ensures in
    wrote_behind (λ s b. pieces_text (codes ", ") (pretty_piece s) b values.names values.entries) c.with_settings.result
    c.new-visitor.result.writer c.record.new.visitor.writer _ _ c.new-visitor.result.is_empty _ c.record.result _ _ made.same made.text
    made.settings c.new-visitor.ensures.writer c.new-visitor.ensures.empty c.out-1.given.1 v.0 v.1
