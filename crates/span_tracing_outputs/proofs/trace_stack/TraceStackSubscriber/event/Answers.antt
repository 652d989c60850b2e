use Rattle.std.proofs.Common.{sym, subst, ◌∙◌}
use Rattle.tracing_core_fields.specs.requests.Calls.{EventDispatched}
use Rattle.tracing_core_fields.specs.requests.PlainRequests.{plain_event}
use Rattle.span_registry_layers.specs.Moves.{Moves}
use Rattle.event_formatter.specs.contracts.fmt_layer.told.LayerLayer.TheImpl.{ghosts, no_dict}
use Rattle.span_tracing_outputs.specs.SinkLines.{HandsOver}
use Rattle.span_tracing_outputs.specs.TraceStacks.{TraceStackValue}
use Rattle.span_tracing_outputs.specs.contracts.pending.PendingLines.{the_row as pending_row}
use Rattle.span_tracing_outputs.specs.contracts.pending.PendingLinesMakeWriter.TheImpl.{ghosts as writer_ghosts}
use Rattle.span_tracing_outputs.proofs.OutputSinkPairs.{hands_paired, moves_length}
use Rattle.span_tracing_outputs.proofs.trace_stack.TraceStackSubscriber.event.Goals as goal

pub hand_over-requires : goal.hand_over-requires
hand_over-requires g c =
    c.self.invariant.0 ∙ sym (moves_length g.F.Filter (ghosts g.row.N g.row.E pending_row g.N.FormatFields no_dict g.E.FormatEvent no_dict
    writer_ghosts no_dict no_dict no_dict no_dict) c.self.inside.stack (EventDispatched (plain_event c.args.event.now) c.args.at)
    c.event-told.result c.event-told.new.self c.event-told.ensures)

pub invariant_of-self : goal.invariant_of-self
invariant_of-self g c =
    hands_paired g.S.LineSink.takes c.args.at c.event-told.new.self c.self.inside.sinks c.hand_over.new.stack
    c.hand_over.new.sinks c.hand_over.ensures
    (c.self.invariant.0 ∙ sym (moves_length g.F.Filter (ghosts g.row.N g.row.E pending_row g.N.FormatFields no_dict g.E.FormatEvent no_dict
    writer_ghosts no_dict no_dict no_dict no_dict) c.self.inside.stack (EventDispatched (plain_event c.args.event.now) c.args.at)
    c.event-told.result c.event-told.new.self c.event-told.ensures))

pub returns : goal.returns
returns g c = (
  c.event-told.new.self,
  subst (λ (x : TraceStackValue _ _ _ _). Moves g.F.Filter (ghosts g.row.N g.row.E pending_row g.N.FormatFields no_dict g.E.FormatEvent
      no_dict writer_ghosts no_dict no_dict no_dict no_dict) x.stack (EventDispatched (plain_event c.args.event.now) c.args.at)
      c.event-told.result c.event-told.new.self) c.self.view_is c.event-told.ensures,
  subst (λ (x : TraceStackValue _ _ _ _). HandsOver g.S.LineSink.takes c.args.at c.event-told.new.self x.sinks c.hand_over.new.stack
      c.hand_over.new.sinks) c.self.view_is c.hand_over.ensures,
)
