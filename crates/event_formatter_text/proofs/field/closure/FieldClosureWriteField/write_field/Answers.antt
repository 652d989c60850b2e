use Rattle.std.proofs.Common.{rules}
use Rattle.event_formatter_text.proofs.field.closure.FieldClosureWriteField.write_field.Goals as goal

pub returns-in_ok-write_str-in-Ok-clause-text : goal.returns-in_ok-write_str-in-Ok-clause-text
returns-in_ok-write_str-in-Ok-clause-text g c = (c.new.result, _, c.in-Ok.ensures, c.new.ensures.bytes, search rules)
