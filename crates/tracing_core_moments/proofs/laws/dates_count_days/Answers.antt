use Rattle.tracing_core_moments.proofs.Years.{dates_count}
use Rattle.tracing_core_moments.proofs.laws.dates_count_days.Goals as goal

pub returns : goal.returns
returns c = dates_count
