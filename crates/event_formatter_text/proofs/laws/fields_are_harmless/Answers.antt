use Rattle.event_formatter_text.proofs.HarmlessTexts.{lists_are}
use Rattle.event_formatter_text.proofs.laws.fields_are_harmless.Goals as goal

pub returns-clause-lists : goal.returns-clause-lists
returns-clause-lists c = lists_are
