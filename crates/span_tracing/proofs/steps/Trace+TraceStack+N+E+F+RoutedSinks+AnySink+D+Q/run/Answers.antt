use Rattle.span_tracing_laws.specs.runs.Runs.{Caching}
use Rattle.span_tracing_skeleton.specs.PlainData.{any_steps}
use Rattle.span_tracing.proofs.Runs.{of_ok}
use Rattle.span_tracing.proofs.steps.Trace+TraceStack+N+E+F+RoutedSinks+AnySink+D+Q.run.Goals as goal

pub returns-clause-run : goal.returns-clause-run
returns-clause-run g c = of_ok c.run_all.result _ _ c.run_all.ensures.run (λ replies gives ready.
    let runs = c.runs_follow.ensures Caching c.args.self.now (any_steps c.args.steps.now) replies.items c.run_all.new.self ready gives in
    (c.files_follow.ensures Caching c.args.self.now (any_steps c.args.steps.now) replies.items c.run_all.new.self runs.0, runs.1))
