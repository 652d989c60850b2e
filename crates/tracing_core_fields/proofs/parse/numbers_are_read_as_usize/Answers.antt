use Rattle.tracing_core_fields.proofs.TextLemmas.{number_of_text-some}
use Rattle.tracing_core_fields.proofs.parse.numbers_are_read_as_usize.Goals as goal

pub returns : goal.returns
returns c = number_of_text-some
