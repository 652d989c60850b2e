use Rattle.std.proofs.Common.{sym, ◌∙◌, arith}
use Rattle.std.proofs.lemmas.Grind.{common_steps}
use Rattle.event_formatter_text.proofs.JsonStrings.{message_key, text_key}
use Rattle.event_formatter_text.specs.Escapes.{json_string}
use Rattle.event_formatter_text.specs.FieldTexts.{plain_name}
use Rattle.event_formatter_text.proofs.json_text.push_text_key.Goals as goal

pub returns-then-is_message : goal.returns-then-is_message
returns-then-is_message c = rw (message_key c.args.name.now (sym c.is_message.ensures ∙ c.if-is_message.true)) c.push_message_key.ensures

pub returns : goal.returns
returns c = rw (text_key (json_string (plain_name c.args.name.now)) c.args.is_first) (grind (arith, common_steps))
