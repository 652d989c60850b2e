use Rattle.std.proofs.Common.{sym, subst}
use Rattle.event_formatter.specs.contracts.fmt_layer.told.LayerLayer.TheImpl.{ghosts, no_dict}
use Rattle.span_tracing_outputs.specs.StackFollows.{LinedStack}
use Rattle.span_tracing_outputs.specs.TraceStacks.{IsAtRest}
use Rattle.span_tracing_outputs.specs.contracts.pending.PendingLines.{the_row as pending_row}
use Rattle.span_tracing_outputs.specs.contracts.pending.PendingLinesMakeWriter.TheImpl.{ghosts as writer_ghosts}
use Rattle.span_tracing_outputs.proofs.CallsWithoutNotices.{dispatch_same}
use Rattle.span_tracing_outputs.proofs.trace_stack.TraceStackSubscriber.on_register_dispatch.Goals as goal

pub invariant_of-self : goal.invariant_of-self
invariant_of-self g c =
    subst (λ (s : LinedStack _ _ _). IsAtRest s c.self.inside.sinks)
    (sym (dispatch_same g.N.FormatFields g.E.FormatEvent.line_of g.F.Filter
    (ghosts g.row.N g.row.E pending_row g.N.FormatFields no_dict g.E.FormatEvent no_dict writer_ghosts no_dict no_dict no_dict no_dict)
    (λ layer t later told. told) c.args.dispatch.now c.self.inside.stack c.on_register_dispatch.new.self c.on_register_dispatch.ensures))
    c.self.invariant
