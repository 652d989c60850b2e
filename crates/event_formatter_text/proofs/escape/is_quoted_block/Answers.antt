use Rattle.event_formatter_text.proofs.Blocks.{clear_quoted}
use Rattle.event_formatter_text.proofs.escape.is_quoted_block.Goals as goal

pub returns : goal.returns
returns c none = clear_quoted c.args.bytes.now c.args.at c.requires c.type_inv.bytes none
