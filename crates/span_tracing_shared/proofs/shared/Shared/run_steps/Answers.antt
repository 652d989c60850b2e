use Rattle.std.proofs.Common.{◌∙◌, arith}
use Rattle.span_tracing_shared.specs.Seats.{own_calls}
use Rattle.span_tracing_shared.proofs.Runs.{ran_more}
use Rattle.span_tracing_shared.proofs.shared.Shared.run_steps.Goals as goal

pub loop-n-preserved : goal.loop-n-preserved
loop-n-preserved g c =
    let so_far = c.loop-n.invariant in (
      c.call.ensures.lane ∙ so_far.0,
      ran_more c.args.steps.now c.loop-n.n c.index-steps-n.result (own_calls c.args.seat.now) (own_calls c.loop-n.seat)
          (own_calls c.call.new.seat) so_far.1.0 c.in_ok-call.field-0 (omega arith) c.index-steps-n.is so_far.1.1 so_far.1.2
          c.in_ok-call.ensures.own,
    )
