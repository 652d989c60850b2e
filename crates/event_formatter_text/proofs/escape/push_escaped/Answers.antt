use Rattle.std.proofs.Common.{◌≡◌, sym, ap, ◌∙◌, arith, false}
use Rattle.std.proofs.lemmas.Grind.{common_steps}
use Rattle.std.specs.List.{list_any}
use Rattle.event_formatter_text.specs.Escapes.{is_special}
use Rattle.event_formatter_text.proofs.UnescapedText.{stands}
use Rattle.event_formatter_text.proofs.escape.push_escaped.Goals as goal

pub returns-else-has_special : goal.returns-else-has_special
returns-else-has_special c =
    let none : list_any (is_special c.args.escape) c.args.text.now ≡ false = ap (list_any (is_special c.args.escape))
    (sym c.as_bytes.ensures.value) ∙ sym c.has_special.ensures ∙ c.if-has_special.false in
    let e = stands c.args.escape c.args.text.now c.utf8.text none in
    rw e (grind (arith, common_steps))
