use Rattle.std.proofs.Common.{refl}
use Rattle.event_formatter.specs.contracts.fmt_layer.told.LayerLayer.TheImpl.{ghosts, no_dict}
use Rattle.span_tracing_outputs.specs.contracts.pending.PendingLines.{the_row as pending_row}
use Rattle.span_tracing_outputs.specs.contracts.pending.PendingLinesMakeWriter.TheImpl.{ghosts as writer_ghosts}
use Rattle.span_tracing_outputs.proofs.TraceStarts.{starts_agreed, starts_ready}
use Rattle.span_tracing_outputs.proofs.laws.trace_starts.Goals as goal

pub returns : goal.returns
returns g c =
    let n = g.N.FormatFields in
    let line_of = g.E.FormatEvent.line_of in
    let h = ghosts g.row.N g.row.E pending_row g.N.FormatFields no_dict g.E.FormatEvent no_dict writer_ghosts no_dict no_dict no_dict
    no_dict in
    record {
      ready = starts_ready n line_of g.F.Filter h (λ layer t later told. told) c.stack_registry_stays_sound.ensures.start (λ layer. refl);
      agreed = starts_agreed n line_of g.F.Filter h (λ layer t later told. told);
    }
