use Rattle.event_formatter_text.proofs.Blocks.{clear_sanitized}
use Rattle.event_formatter_text.proofs.escape.is_sanitized_block.Goals as goal

pub returns : goal.returns
returns c none = clear_sanitized c.args.bytes.now c.args.at c.requires c.type_inv.bytes none
