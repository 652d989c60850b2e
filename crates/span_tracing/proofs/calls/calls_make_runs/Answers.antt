use Rattle.span_tracing.proofs.Runs.{calls_make_runs}
use Rattle.span_tracing.proofs.calls.calls_make_runs.Goals as goal

pub returns-clause-runs : goal.returns-clause-runs
returns-clause-runs g c = calls_make_runs _ _ _

pub returns-clause-files : goal.returns-clause-files
returns-clause-files g c = λ road v steps replies w gives ready.
    let runs = c.runs_follow.ensures road v steps replies w ready gives in
    (c.files_follow.ensures road v steps replies w runs.0, runs.1)
