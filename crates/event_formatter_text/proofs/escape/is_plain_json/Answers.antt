use Rattle.std.proofs.Common.{◌≡◌, IsTrue, Bool, true, false, not, refl, sym, ap, ◌∙◌}
use Rattle.std.specs.List.{list_any}
use Rattle.event_formatter_text.specs.Escapes.{is_special}
use Rattle.event_formatter_text.specs.declared.escape.Escape.TheVariants.{Json}
use Rattle.event_formatter_text.proofs.UnescapedText.{stands}
use Rattle.event_formatter_text.proofs.escape.is_plain_json.Goals as goal

is_false : (b : Bool) → IsTrue (not b) → b ≡ false
is_false false told = refl
is_false true told = absurd (cc)

pub returns-clause-plain : goal.returns-clause-plain
returns-clause-plain c =
    λ plain. stands Json c.args.text.now c.utf8.text
    (ap (list_any (is_special Json)) (sym c.as_bytes.ensures.value) ∙ sym c.has_special.ensures ∙ is_false c.has_special.result plain)
