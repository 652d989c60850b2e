use Rattle.span_tracing_laws.proofs.json_runs.Files.{files_hold}
use Rattle.span_tracing_laws.proofs.json_runs.json_files_hold_objects.Goals as goal

pub returns : goal.returns
returns g c =
    files_hold _ g.D.Folder.contents g.D.Folder.failed g.N.FormatFields g.E.FormatEvent.line_of g.F.Filter c.json_outputs_run.ensures
    c.files_hold_objects.ensures c.lines_give_objects.ensures
