use Rattle.event_formatter_text.specs.SpanFields.{PlainFields}
use Rattle.event_formatter_lines.specs.slots.FieldsAndTimings.{kept_first}
use Rattle.event_formatter_lines.proofs.slots.LentSlots.{rekept}
use Rattle.event_formatter_lines.proofs.slots.new_span.keep_new.Goals as goal

pub returns-in-Some-clause-kept : goal.returns-in-Some-clause-kept
returns-in-Some-clause-kept g c =
    let added = λ (kept : PlainFields). g.F.FormatFields.added c.args.formatter.now kept (g.R.RecordFields.values c.args.fields.now) in
    let started = g.F.FormatFields.started c.args.formatter.now c.args.settings in
    rekept c.args.context.now c.args.span.now c.args.key.0 c.in-Some.slots.now c.keep_made.new.slots
    (kept_first c.keep_made.result added started c.args.timings) c.in-Some.ensures.lent c.keep_made.ensures
