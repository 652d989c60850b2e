use Rattle.span_tracing_laws.proofs.json_runs.Formats.{format_files_hold}
use Rattle.span_tracing_laws.proofs.json_runs.json_format_files_hold_objects.Goals as goal

pub returns : goal.returns
returns g c = format_files_hold _ g.D.Folder.contents g.D.Folder.failed _ _ g.F.Filter c.json_format_writes_objects.ensures
    c.json_files_hold_objects.ensures
