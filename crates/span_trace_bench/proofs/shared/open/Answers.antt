use Rattle.span_trace_bench.proofs.shared.open.Goals as goal

pub returns : goal.returns
returns g c = c.in_ok-outer.ensures (c.in_ok-trace.ensures.ready (c.leveled_outputs_are_honest.ensures _))
