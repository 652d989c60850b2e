use Rattle.std.proofs.Common.{sym}
use Rattle.event_formatter_text.proofs.Blocks.{none_special}
use Rattle.event_formatter_text.proofs.escape.has_special_in_blocks.Goals as goal

pub returns-then-is_plain_far : goal.returns-then-is_plain_far
returns-then-is_plain_far c = sym (none_special c.args.escape c.args.bytes.now (c.is_plain_far.ensures c.if-is_plain_far.true))
