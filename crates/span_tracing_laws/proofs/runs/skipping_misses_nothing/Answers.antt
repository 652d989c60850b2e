use Rattle.span_tracing_laws.proofs.runs.SkippedCallsites.{skips_nothing}
use Rattle.span_tracing_laws.proofs.runs.skipping_misses_nothing.Goals as goal

pub returns : goal.returns
returns g c = skips_nothing g.F.Filter _ _ (λ x m k w. w) (λ x w. w)
