use Rattle.std.proofs.Common.{ap, sym, subst, ◌∙◌}
use Rattle.tracing_core_moments.specs.declared.at.At.{At}
use Rattle.span_registry_layers_layers.specs.FilterViews.{view}
use Rattle.event_formatter_lines.specs.slots.SlotsByTag.{Leaves, by_tag, kept_by}
use Rattle.event_formatter_lines.specs.slots.FieldsAndTimings.{PlainKept}
use Rattle.event_formatter_lines.specs.slots.SteppedTimings.{kept_stepped}
use Rattle.event_formatter_lines.proofs.slots.Untimed.{untimed}
use Rattle.event_formatter_lines.proofs.slots.LentSlots.{kept_of_lent, rekept_by}
use Rattle.event_formatter_lines.proofs.slots.timings.step_timings.Goals as goal

pub returns-then-not-keeps_timings-clause-kept : goal.returns-then-not-keeps_timings-clause-kept
returns-then-not-keeps_timings-clause-kept c =
    untimed c.args.context.now c.args.span.now c.args.key.0 c.args.step (sym c.keeps_timings.ensures ∙ c.if-not-keeps_timings.true)

pub returns-in-Some-clause-kept : goal.returns-in-Some-clause-kept
returns-in-Some-clause-kept c =
    let key = c.args.key.0 in
    let before = c.in-Some.slots.now in
    let after = c.step_kept.new.slots in
    let v = view c.args.context.now in
    rekept_by c.args.context.now c.args.span.now key before after (kept_stepped c.args.step v.at) c.in-Some.ensures.lent
    (subst (λ (at : At). Leaves (by_tag key before) (kept_stepped c.args.step at (kept_by (by_tag key before))) (by_tag key after))
    c.at-at.ensures c.step_kept.ensures.kept)

pub returns-in-Some-clause-answered : goal.returns-in-Some-clause-answered
returns-in-Some-clause-answered c =
    let key = c.args.key.0 in
    let before = c.in-Some.slots.now in
    let v = view c.args.context.now in
    c.step_kept.ensures.answered
    ∙ ap (λ (at : At). (kept_stepped c.args.step at (kept_by (by_tag key before))).timings) c.at-at.ensures
    ∙ ap (λ (kept : PlainKept). (kept_stepped c.args.step v.at kept).timings)
    (sym (kept_of_lent v c.args.span.now key before c.in-Some.ensures.lent))
