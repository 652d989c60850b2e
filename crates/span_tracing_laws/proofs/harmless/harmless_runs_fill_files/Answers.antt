use Rattle.span_tracing_laws.proofs.harmless.Runs.{runs_fill}
use Rattle.span_tracing_laws.proofs.harmless.harmless_runs_fill_files.Goals as goal

pub returns : goal.returns
returns g c =
    runs_fill _ g.D.Folder.contents g.D.Folder.failed g.N.FormatFields g.E.FormatEvent.line_of g.F.Filter
    c.files_stay_harmless.ensures.files c.files_stay_harmless.ensures.texts
