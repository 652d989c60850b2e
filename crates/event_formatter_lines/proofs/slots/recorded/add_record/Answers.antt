use Rattle.event_formatter_text.specs.SpanFields.{PlainFields}
use Rattle.event_formatter_lines.specs.slots.FieldsAndTimings.{kept_more}
use Rattle.event_formatter_lines.proofs.slots.LentSlots.{rekept_by}
use Rattle.event_formatter_lines.proofs.slots.recorded.add_record.Goals as goal

pub returns-in-Some-clause-kept : goal.returns-in-Some-clause-kept
returns-in-Some-clause-kept g c =
    let added = λ (kept : PlainFields). g.F.FormatFields.added c.args.formatter.now kept (g.R.RecordFields.values c.args.fields.now) in
    let started = g.F.FormatFields.started c.args.formatter.now c.args.settings in
    rekept_by c.args.context.now c.args.span.now c.args.key.0 c.in-Some.slots.now c.add_more.new.slots
    (kept_more c.add_more.result added started) c.in-Some.ensures.lent c.add_more.ensures
