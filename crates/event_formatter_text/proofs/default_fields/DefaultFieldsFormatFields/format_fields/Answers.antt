use Rattle.std.proofs.Common.{codes}
use Rattle.event_formatter_text.specs.Lists.{pieces_text}
use Rattle.event_formatter_text.specs.Visitors.{default_piece, frame_of}
use Rattle.event_formatter_text.specs.Writers.{written}
use Rattle.event_formatter_text.proofs.VisitorText.{wrote_text}
use Rattle.event_formatter_text.proofs.PieceVisits.{fields_visited}
use Rattle.event_formatter_text.proofs.default_fields.DefaultFieldsFormatFields.format_fields.Goals as goal

pub returns-clause-text : goal.returns-clause-text
returns-clause-text g c =
    let v = fields_visited (λ v. written v.writer) (λ v. v.is_empty) (λ v. frame_of v.writer) (λ s. codes " ")
    (λ s name value. default_piece s.settings name value) c.record.ensures in
    let values = g.R.RecordFields.values c.args.fields.now in
    wrote_text (λ s b. pieces_text (codes " ") (default_piece s) b values.names values.entries) _ c.new-visitor.result.writer
    c.record.new.visitor.writer c.new-visitor.result.is_empty c.record.result _ c.new-visitor.ensures.writer c.new-visitor.ensures.empty
    c.writer-1.given.1 v.0 v.1
