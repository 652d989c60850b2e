use Rattle.std.proofs.Common.{ap, sym, ◌∙◌, subst}
use Rattle.event_formatter_text.specs.Lists.{Formats}
use Rattle.event_formatter_text.specs.field.Pieces.{fields_text}
use Rattle.event_formatter_text.proofs.PieceVisits.{visited}
use Rattle.tracing_core_fields.specs.PlainValue.{debug_of}
use Rattle.event_formatter_text.specs.field.ShownPieces.{standing}
use Rattle.event_formatter_text.proofs.field.field_formatter.write_fields.Goals as goal

pub returns-clause-same : goal.returns-clause-same
returns-clause-same g c =
    let v = visited (λ v. g.W.FieldTarget.text v.target.now) (λ v. v.is_empty) (standing g.W.FieldTarget.frame) (λ s. s.delimiter)
    (λ s name value. g.F.WritePiece.piece s.function s.frame.settings name (debug_of value)) c.record.ensures in
    let ended = c.target-1.given.1 (sym (ap (λ s. s.target) v.0)) in
    ap g.W.FieldTarget.frame ended ∙ ap (λ s. s.frame) v.0

pub returns-clause-text : goal.returns-clause-text
returns-clause-text g c =
    let v = visited (λ v. g.W.FieldTarget.text v.target.now) (λ v. v.is_empty) (standing g.W.FieldTarget.frame) (λ s. s.delimiter)
    (λ s name value. g.F.WritePiece.piece s.function s.frame.settings name (debug_of value)) c.record.ensures in
    let ended = c.target-1.given.1 (sym (ap (λ s. s.target) v.0)) in
    let values = g.R.RecordFields.values c.args.fields.now in
    subst (λ w. Formats (fields_text c.args.delimiter.now
    (g.F.WritePiece.piece c.args.function.now (g.W.FieldTarget.frame c.args.target.now).settings) values)
    (g.W.FieldTarget.text c.args.target.now) c.record.result (g.W.FieldTarget.text w)) (sym ended) v.1
