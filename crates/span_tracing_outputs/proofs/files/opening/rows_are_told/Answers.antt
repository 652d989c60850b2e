use Rattle.std.proofs.Common.{refl}
use Rattle.event_formatter.specs.contracts.fmt_layer.told.LayerLayer.TheImpl.{ghosts, no_dict}
use Rattle.span_tracing_outputs.specs.contracts.pending.PendingLines.{the_row as pending_row}
use Rattle.span_tracing_outputs.specs.contracts.pending.PendingLinesMakeWriter.TheImpl.{ghosts as writer_ghosts}
use Rattle.span_tracing_outputs.proofs.files.RequestedOutputs.{rows_are_told}
use Rattle.span_tracing_outputs.proofs.files.opening.rows_are_told.Goals as goal

pub returns : goal.returns
returns g c =
    rows_are_told g.F.Filter (ghosts g.row.N g.row.E pending_row g.N.FormatFields no_dict g.E.FormatEvent no_dict writer_ghosts no_dict
    no_dict no_dict no_dict) (λ layer. refl)
