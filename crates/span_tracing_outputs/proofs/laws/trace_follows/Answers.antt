use Rattle.std.proofs.Common.{refl}
use Rattle.event_formatter.specs.contracts.fmt_layer.told.LayerLayer.TheImpl.{ghosts, no_dict}
use Rattle.span_tracing_outputs.specs.contracts.pending.PendingLines.{the_row as pending_row}
use Rattle.span_tracing_outputs.specs.contracts.pending.PendingLinesMakeWriter.TheImpl.{ghosts as writer_ghosts}
use Rattle.span_tracing_outputs.proofs.OutputsWithoutNotices.{rests_step}
use Rattle.span_tracing_outputs.proofs.StackReadiness.{stays_ready}
use Rattle.span_tracing_outputs.proofs.HandedLines.{numbers_agree}
use Rattle.span_tracing_outputs.proofs.TraceFollows.{goes}
use Rattle.span_tracing_outputs.proofs.laws.trace_follows.Goals as goal

pub returns : goal.returns
returns g c =
    let n = g.N.FormatFields in
    let line_of = g.E.FormatEvent.line_of in
    let f = g.F.Filter in
    let takes = g.S.LineSink.takes in
    let h = ghosts g.row.N g.row.E pending_row g.N.FormatFields no_dict g.E.FormatEvent no_dict writer_ghosts no_dict no_dict no_dict
    no_dict in
    record {
      goes = goes n line_of f takes h c.stack_follows.ensures (λ layer t later told. told) (λ layer. refl);
      ready = stays_ready n line_of f takes h (λ layer key. refl) (λ layer t later told. told) c.stack_registry_stays_sound.ensures.call
          (λ layer. refl);
      same = λ x. record { sinks = refl; rows = refl; agreed = λ outs agrees. agrees };
      rests = rests_step n line_of f takes;
      numbers = numbers_agree n line_of f;
    }
