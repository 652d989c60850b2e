use Rattle.span_tracing_outputs.proofs.sinks.Fates.{kept_in_turn}
use Rattle.span_tracing_outputs.proofs.sinks.laws.kept_lines_go_in_turn.Goals as goal

pub returns : goal.returns
returns c = kept_in_turn
