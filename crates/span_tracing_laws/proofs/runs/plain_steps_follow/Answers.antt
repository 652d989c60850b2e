use Rattle.tracing_core_fields.specs.requests.Calls.{Call, ReplyTo}
use Rattle.span_tracing_outputs.specs.TraceStacks.{TraceStackValue}
use Rattle.span_tracing_outputs.specs.contracts.trace_stack.TraceStackSubscriber.TheImpl.{ghosts}
use Rattle.span_tracing_laws.proofs.runs.SpanMasks.{step_read}
use Rattle.span_tracing_laws.proofs.runs.StepFollows.{step_follows}
use Rattle.span_tracing_laws.proofs.runs.StepMasks.{question_wanted, span_dropped, step_masked}
use Rattle.span_tracing_laws.proofs.runs.plain_steps_follow.Goals as goal

pub returns : goal.returns
returns g c =
    let sg = ghosts g.row.N g.row.E g.row.F g.row.S g.N.FormatFields g.N.FormatFields-dict g.E.FormatEvent g.E.FormatEvent-dict g.F.Filter
    g.F.Filter-dict g.S.LineSink g.S.LineSink-dict g.N.Destruct-dict g.E.Destruct-dict g.F.Destruct-dict g.S.Destruct-dict in
    record {
      each = step_follows g.N.FormatFields g.E.FormatEvent.line_of g.F.Filter g.S.LineSink.takes _ sg
          (λ (x : TraceStackValue _ _ _ _) (call : Call) (r : ReplyTo call) (y : TraceStackValue _ _ _ _). λ moved. moved)
          c.trace_follows.ensures;
      read = step_read g.N.FormatFields g.E.FormatEvent.line_of g.F.Filter g.S.LineSink.takes _ sg
          (λ (x : TraceStackValue _ _ _ _) (call : Call) (r : ReplyTo call) (y : TraceStackValue _ _ _ _). λ moved. moved)
          c.trace_follows.ensures;
      masked = step_masked g.N.FormatFields g.E.FormatEvent.line_of g.F.Filter g.S.LineSink.takes _ sg
          (λ (x : TraceStackValue _ _ _ _) (call : Call) (r : ReplyTo call) (y : TraceStackValue _ _ _ _). λ moved. moved)
          c.trace_follows.ensures;
      wanted = question_wanted g.N.FormatFields g.E.FormatEvent.line_of g.F.Filter g.S.LineSink.takes _ sg
          (λ (x : TraceStackValue _ _ _ _) (call : Call) (r : ReplyTo call) (y : TraceStackValue _ _ _ _). λ moved. moved)
          c.trace_follows.ensures;
      dropped = span_dropped g.N.FormatFields g.E.FormatEvent.line_of g.F.Filter g.S.LineSink.takes _ sg
          (λ (x : TraceStackValue _ _ _ _) (call : Call) (r : ReplyTo call) (y : TraceStackValue _ _ _ _). λ moved. moved)
          c.trace_follows.ensures;
    }
