use Rattle.span_tracing.proofs.FirstTraces.{sites_ready}
use Rattle.span_tracing.proofs.laws.sites_stay_ready.Goals as goal

pub returns : goal.returns
returns g c = sites_ready g.N.FormatFields g.E.FormatEvent.line_of g.F.Filter g.S.LineSink.takes _ _ c.setup_follows.ensures
