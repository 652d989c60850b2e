use Rattle.event_formatter_lines.proofs.slots.Locality.{rekept_locally}
use Rattle.event_formatter_lines.proofs.slots.laws.rekeeping_is_local.Goals as goal

pub returns : goal.returns
returns c = rekept_locally
