use Rattle.span_tracing_outputs.proofs.LayerAgreement.{follows}
use Rattle.span_tracing_outputs.proofs.laws.layer_follows.Goals as goal

pub returns : goal.returns
returns g c = λ lines_in keeps. follows g.N.FormatFields g.E.FormatEvent.line_of lines_in g.W.MakeWriter.writes keeps
    c.rekeeping_is_local.ensures
