use Rattle.span_tracing_skeleton.specs.PlainData.{OfQueue}
use Rattle.span_tracing_skeleton.specs.declared.queue_call.QueueCall.TheVariants.{Admit}
use Rattle.span_tracing.proofs.TraceValue.{step_carried}
use Rattle.span_tracing.proofs.queues.Trace+TraceStack+N+E+F+RoutedSinks+AnySink+D+Q.admit.Goals as goal

pub returns : goal.returns
returns g c = step_carried _ _ _ _ _ _ _ _ _ _ _ _ c.self.view_is
    (record {
      gives = c.drive.ensures.gives;
      follows = λ ready. c.steps_follow.ensures.each _ (OfQueue (record { sink = c.args.sink; call = Admit })) c.drive.result _ ready
          c.drive.ensures.gives;
    })
