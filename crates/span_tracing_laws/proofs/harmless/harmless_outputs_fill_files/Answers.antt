use Rattle.span_tracing_laws.proofs.harmless.Runs.{outputs_fill}
use Rattle.span_tracing_laws.proofs.harmless.harmless_outputs_fill_files.Goals as goal

pub returns : goal.returns
returns g c =
    outputs_fill _ g.D.Folder.contents g.D.Folder.failed g.N.FormatFields g.E.FormatEvent.line_of g.F.Filter c.harmless_outputs_run.ensures
    c.harmless_runs_fill_files.ensures
