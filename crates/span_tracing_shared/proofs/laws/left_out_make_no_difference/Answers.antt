use Rattle.span_tracing_shared.proofs.Journals.{left_out}
use Rattle.span_tracing_shared.proofs.laws.left_out_make_no_difference.Goals as goal

pub returns : goal.returns
returns c = left_out
