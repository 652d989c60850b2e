use Rattle.event_formatter.proofs.formats.OwnSpans.{lead_back}
use Rattle.event_formatter.proofs.formats.laws.ids_lead_back.Goals as goal

pub returns : goal.returns
returns c = lead_back
