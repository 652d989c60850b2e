use Rattle.tracing_core_moments.proofs.Order.{rise}
use Rattle.tracing_core_moments.proofs.laws.names_rise.Goals as goal

pub returns : goal.returns
returns c = rise
