use Rattle.std.proofs.Common.{sym, subst, ap, ◌∙◌}
use Rattle.tracing_core_fields.specs.Metadata.{plain_metadata}
use Rattle.tracing_core_fields.specs.requests.Calls.{Asked}
use Rattle.span_registry_layers.specs.Questions.{question_alike}
use Rattle.span_registry_layers.specs.Stacks.{is_refused}
use Rattle.event_formatter.specs.contracts.fmt_layer.told.LayerLayer.TheImpl.{ghosts, no_dict}
use Rattle.span_tracing_outputs.specs.SinkLines.{NoLines}
use Rattle.span_tracing_outputs.specs.StackFollows.{LinedStack}
use Rattle.span_tracing_outputs.specs.contracts.pending.PendingLines.{the_row as pending_row}
use Rattle.span_tracing_outputs.specs.contracts.pending.PendingLinesMakeWriter.TheImpl.{ghosts as writer_ghosts}
use Rattle.span_tracing_outputs.proofs.MarkedRows.{lines_marked, lines_unmarked}
use Rattle.span_tracing_outputs.proofs.OutputSinkPairs.{moves_length}
use Rattle.span_tracing_outputs.proofs.trace_stack.TraceStackSubscriber.enabled.Goals as goal

pub invariant_of-self : goal.invariant_of-self
invariant_of-self g c =
    let old = c.self.inside.stack in
    let new = c.enabled.new.self in
    let m = plain_metadata c.args.metadata.now in
    let same = ap (λ (s : LinedStack _ _ _). s.rows)
    (question_alike g.F.Filter (is_refused old m) m c.args.at old new c.enabled.ensures.state.0) in (
      c.self.invariant.0 ∙ sym (moves_length g.F.Filter (ghosts g.row.N g.row.E pending_row g.N.FormatFields no_dict g.E.FormatEvent no_dict
          writer_ghosts no_dict no_dict no_dict no_dict) old (Asked m c.args.at) c.enabled.result new c.enabled.ensures.state),
      lines_unmarked new.rows (subst NoLines (sym same) (lines_marked old.rows c.self.invariant.1)),
    )
