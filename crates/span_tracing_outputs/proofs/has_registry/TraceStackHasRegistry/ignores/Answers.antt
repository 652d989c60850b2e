use Rattle.event_formatter.specs.contracts.fmt_layer.told.LayerLayer.TheImpl.{ghosts, no_dict}
use Rattle.span_tracing_outputs.specs.contracts.pending.PendingLines.{the_row as pending_row}
use Rattle.span_tracing_outputs.specs.contracts.pending.PendingLinesMakeWriter.TheImpl.{ghosts as writer_ghosts}
use Rattle.span_tracing_outputs.proofs.IgnoredEvents.{ignored}
use Rattle.span_tracing_outputs.proofs.has_registry.TraceStackHasRegistry.ignores.Goals as goal

pub returns : goal.returns
returns g c answered =
    let told = c.stack_ignores.ensures.ignores answered in
    ignored g.F.Filter (ghosts g.row.N g.row.E pending_row g.N.FormatFields no_dict g.E.FormatEvent no_dict writer_ghosts no_dict no_dict
    no_dict no_dict) g.S.LineSink.takes c.args.self.now c.args.level c.stack_ignores.ensures.rest told.0 told.1
