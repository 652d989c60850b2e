use Rattle.std.proofs.Common.{sym, subst, ◌∙◌}
use Rattle.tracing_core_fields.specs.requests.Calls.{Recorded}
use Rattle.tracing_core_fields.specs.requests.PlainRequests.{plain_record}
use Rattle.span_registry_layers.specs.Moves.{Moves}
use Rattle.event_formatter.specs.contracts.fmt_layer.told.LayerLayer.TheImpl.{ghosts, no_dict}
use Rattle.span_tracing_outputs.specs.SinkLines.{HandsOver}
use Rattle.span_tracing_outputs.specs.TraceStacks.{TraceStackValue}
use Rattle.span_tracing_outputs.specs.contracts.pending.PendingLines.{the_row as pending_row}
use Rattle.span_tracing_outputs.specs.contracts.pending.PendingLinesMakeWriter.TheImpl.{ghosts as writer_ghosts}
use Rattle.span_tracing_outputs.proofs.OutputSinkPairs.{hands_paired, moves_length}
use Rattle.span_tracing_outputs.proofs.trace_stack.TraceStackSubscriber.record.Goals as goal

pub hand_over-requires : goal.hand_over-requires
hand_over-requires g c =
    c.self.invariant.0 ∙ sym (moves_length g.F.Filter (ghosts g.row.N g.row.E pending_row g.N.FormatFields no_dict g.E.FormatEvent no_dict
    writer_ghosts no_dict no_dict no_dict no_dict) c.self.inside.stack
    (Recorded c.args.span.now (plain_record c.args.values.now) c.args.at) c.record-recorded.result c.record-recorded.new.self
    c.record-recorded.ensures)

pub invariant_of-self : goal.invariant_of-self
invariant_of-self g c =
    hands_paired g.S.LineSink.takes c.args.at c.record-recorded.new.self c.self.inside.sinks c.hand_over.new.stack
    c.hand_over.new.sinks c.hand_over.ensures
    (c.self.invariant.0 ∙ sym (moves_length g.F.Filter (ghosts g.row.N g.row.E pending_row g.N.FormatFields no_dict g.E.FormatEvent no_dict
    writer_ghosts no_dict no_dict no_dict no_dict) c.self.inside.stack
    (Recorded c.args.span.now (plain_record c.args.values.now) c.args.at) c.record-recorded.result c.record-recorded.new.self
    c.record-recorded.ensures))

pub returns : goal.returns
returns g c = (
  c.record-recorded.new.self,
  subst (λ (x : TraceStackValue _ _ _ _). Moves g.F.Filter (ghosts g.row.N g.row.E pending_row g.N.FormatFields no_dict g.E.FormatEvent
      no_dict writer_ghosts no_dict no_dict no_dict no_dict) x.stack (Recorded c.args.span.now (plain_record c.args.values.now) c.args.at)
      c.record-recorded.result c.record-recorded.new.self) c.self.view_is c.record-recorded.ensures,
  subst (λ (x : TraceStackValue _ _ _ _). HandsOver g.S.LineSink.takes c.args.at c.record-recorded.new.self x.sinks c.hand_over.new.stack
      c.hand_over.new.sinks) c.self.view_is c.hand_over.ensures,
)
