use Rattle.span_tracing_skeleton.specs.PlainData.{any_step}
use Rattle.span_tracing.proofs.Runs.{by_asking, by_keeping}
use Rattle.span_tracing.proofs.trace.Trace.act_by.Goals as goal
use Rattle.span_tracing.proofs.trace.Trace.act_by.Goals.{then-asks, else-asks}

pub returns : goal.returns
returns g c = elim c.if-asks.branch [
  | then-asks w ↦ by_asking g.T.Subscriber g.T.HasRegistry.registry_of g.T.HasOutputs.set g.T.HasSinks.drives g.T.HasSinks.holds
      c.args.asks c.args.self.now c.if-asks.self (any_step c.args.next.now) c.act_or_wait.result c.act_or_wait.new.self w.if-asks.true
      (rw (w.self-is, ← c.self.view_is) w.rebuild_interest_cache.ensures.asked) c.act_or_wait.ensures
  | else-asks w ↦ by_keeping g.T.Subscriber g.T.HasRegistry.registry_of g.T.HasOutputs.set g.T.HasSinks.drives g.T.HasSinks.holds
      c.args.asks c.args.self.now c.if-asks.self (any_step c.args.next.now) c.act_or_wait.result c.act_or_wait.new.self w.if-asks.false
      w.self-is c.act_or_wait.ensures
]
