use Rattle.std.proofs.Common.{arith, refl, take}
use Rattle.span_tracing_skeleton.specs.PlainData.{any_step, any_steps}
use Rattle.span_tracing.specs.Roads.{road_of}
use Rattle.span_tracing.proofs.Runs.{run_more, take_step}
use Rattle.span_tracing.proofs.trace.Trace.run_all.Goals as goal

pub loop-step-preserved : goal.loop-step-preserved
loop-step-preserved g c =
    let more = take_step c.args.steps.now c.loop-step.step-index c.step-item.result (omega arith) c.step-item.is in
    record {
      room = omega (arith, c.push_reserved.ensures.capacity);
      count = omega (arith, c.push_reserved.ensures.len);
      given = rw (c.push_reserved.ensures.items, more)
          (run_more g.T.Subscriber g.T.HasRegistry.registry_of g.T.HasOutputs.set g.T.HasSinks.drives g.T.HasSinks.holds
          (road_of c.args.asks) c.args.self.now (any_steps (take c.loop-step.step-index c.args.steps.now)) c.loop-step.replies.items
          c.loop-step.self (any_step c.step-item.result) c.act_by.result c.act_by.new.self c.loop-step.invariant.given c.act_by.ensures);
    }

pub loop-step-init : goal.loop-step-init
loop-step-init g c = record {
  room = c.in_ok-replies.ensures.capacity;
  count = c.in_ok-replies.ensures.len;
  given = rw (c.in_ok-replies.ensures.items) refl;
}
