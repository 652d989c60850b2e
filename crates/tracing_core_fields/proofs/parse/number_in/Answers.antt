use Rattle.std.proofs.Common.{◌∙◌}
use Rattle.tracing_core_fields.proofs.TextLemmas.{result_ok-number_of_text}
use Rattle.tracing_core_fields.proofs.parse.number_in.Goals as goal

pub returns : goal.returns
returns c = c.ok.ensures.value ∙ result_ok-number_of_text c.args.text.now _ c.parse.ensures.value.0
