use Rattle.std.proofs.Common.{◌≡◌, ◌≤◌, length, take, vec_len, vec_capacity}
use Rattle.span_tracing_skeleton.specs.PlainData.{any_steps}
use Rattle.span_tracing_steps.specs.Runs.{RunGives}
use Rattle.span_tracing.specs.Roads.{road_of}
use Rattle.span_tracing.proofs.trace.Trace.run_all.Given as goal

abbrev pub invariant-loop-step : goal.invariant-loop-step
invariant-loop-step g l = record {
  room : length l.steps ≤ vec_capacity l.replies;
  count : vec_len l.replies ≡ l.step-index;
  given : RunGives g.T.Subscriber g.T.HasRegistry.registry_of g.T.HasOutputs.set g.T.HasSinks.drives g.T.HasSinks.holds
      (road_of l.asks) l.fn.self (any_steps (take l.step-index l.steps)) l.replies.items l.self;
}
