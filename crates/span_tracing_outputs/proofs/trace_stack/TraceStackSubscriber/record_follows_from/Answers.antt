use Rattle.std.proofs.Common.{sym, subst, ◌∙◌}
use Rattle.tracing_core_fields.specs.requests.Calls.{FollowsRecorded}
use Rattle.span_registry_layers.specs.Moves.{Moves}
use Rattle.event_formatter.specs.contracts.fmt_layer.told.LayerLayer.TheImpl.{ghosts, no_dict}
use Rattle.span_tracing_outputs.specs.SinkLines.{HandsOver}
use Rattle.span_tracing_outputs.specs.TraceStacks.{TraceStackValue}
use Rattle.span_tracing_outputs.specs.contracts.pending.PendingLines.{the_row as pending_row}
use Rattle.span_tracing_outputs.specs.contracts.pending.PendingLinesMakeWriter.TheImpl.{ghosts as writer_ghosts}
use Rattle.span_tracing_outputs.proofs.OutputSinkPairs.{hands_paired, moves_length}
use Rattle.span_tracing_outputs.proofs.trace_stack.TraceStackSubscriber.record_follows_from.Goals as goal

pub hand_over-requires : goal.hand_over-requires
hand_over-requires g c =
    c.self.invariant.0 ∙ sym (moves_length g.F.Filter (ghosts g.row.N g.row.E pending_row g.N.FormatFields no_dict g.E.FormatEvent no_dict
    writer_ghosts no_dict no_dict no_dict no_dict) c.self.inside.stack (FollowsRecorded c.args.span.now c.args.follows.now c.args.at)
    c.record_follows_from-recorded.result c.record_follows_from-recorded.new.self c.record_follows_from-recorded.ensures)

pub invariant_of-self : goal.invariant_of-self
invariant_of-self g c =
    hands_paired g.S.LineSink.takes c.args.at c.record_follows_from-recorded.new.self c.self.inside.sinks c.hand_over.new.stack
    c.hand_over.new.sinks c.hand_over.ensures
    (c.self.invariant.0 ∙ sym (moves_length g.F.Filter (ghosts g.row.N g.row.E pending_row g.N.FormatFields no_dict g.E.FormatEvent no_dict
    writer_ghosts no_dict no_dict no_dict no_dict) c.self.inside.stack (FollowsRecorded c.args.span.now c.args.follows.now c.args.at)
    c.record_follows_from-recorded.result c.record_follows_from-recorded.new.self c.record_follows_from-recorded.ensures))

pub returns : goal.returns
returns g c = (
  c.record_follows_from-recorded.new.self,
  subst (λ (x : TraceStackValue _ _ _ _). Moves g.F.Filter (ghosts g.row.N g.row.E pending_row g.N.FormatFields no_dict g.E.FormatEvent
      no_dict writer_ghosts no_dict no_dict no_dict no_dict) x.stack (FollowsRecorded c.args.span.now c.args.follows.now c.args.at)
      c.record_follows_from-recorded.result c.record_follows_from-recorded.new.self) c.self.view_is c.record_follows_from-recorded.ensures,
  subst (λ (x : TraceStackValue _ _ _ _). HandsOver g.S.LineSink.takes c.args.at c.record_follows_from-recorded.new.self x.sinks
      c.hand_over.new.stack c.hand_over.new.sinks) c.self.view_is c.hand_over.ensures,
)
