use Rattle.std.proofs.Common.{arith}
use Rattle.std.proofs.lemmas.Grind.{common_steps}
use Rattle.event_formatter_text.proofs.JsonStrings.{text_member}
use Rattle.event_formatter_text.specs.Escapes.{json_string}
use Rattle.event_formatter_text.specs.FieldTexts.{plain_name}
use Rattle.event_formatter_text.proofs.json_text.push_text_member.Goals as goal

pub returns : goal.returns
returns c = rw (text_member (json_string (plain_name c.args.name.now)) c.args.text.now c.args.is_first) (grind (arith, common_steps))
