use Rattle.std.proofs.Common.{◌≡◌, sym, ap, ◌∙◌, arith, false}
use Rattle.std.proofs.lemmas.Grind.{common_steps}
use Rattle.std.specs.List.{list_any}
use Rattle.event_formatter_text.specs.Escapes.{is_special}
use Rattle.event_formatter_text.specs.FieldTexts.{shown}
use Rattle.event_formatter_text.specs.declared.escape.Escape.TheVariants.{Sanitized}
use Rattle.event_formatter_text.proofs.MessageText.{shown_as_it_is, shown_sanitized, shown_unsanitized}
use Rattle.event_formatter_text.proofs.field_text.push_shown.Goals as goal
use Rattle.event_formatter_text.proofs.field_text.push_shown.Goals.{else-settings-via-then-settings+else-has_special}
use Rattle.event_formatter_text.proofs.field_text.push_shown.Goals.{else-settings-via-else-settings}

pub returns-then-has_special : goal.returns-then-has_special
returns-then-has_special c = rw (shown_sanitized c.args.settings c.args.text.now c.if-settings.true) c.push_each.ensures

pub returns : goal.returns
returns c =
    let as_it_is : shown c.args.settings c.args.text.now ≡ c.args.text.now = elim c.else-settings.branch [
      | else-settings-via-then-settings+else-has_special w ↦ (let none : list_any (is_special Sanitized) c.args.text.now ≡ false =
          ap (list_any (is_special Sanitized)) (sym w.as_bytes.ensures.value) ∙ sym w.has_special.ensures ∙ w.if-has_special.false in
          shown_as_it_is c.args.settings c.args.text.now c.utf8.text none)
      | else-settings-via-else-settings w ↦ shown_unsanitized c.args.settings c.args.text.now w.if-settings.false
    ] in
    rw as_it_is (grind (arith, common_steps))
