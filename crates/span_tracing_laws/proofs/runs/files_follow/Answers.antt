use Rattle.span_tracing_laws.proofs.runs.Files.{files_follow}
use Rattle.span_tracing_laws.proofs.runs.files_follow.Goals as goal

pub returns : goal.returns
returns g c = files_follow g.D.Folder.contents g.D.Folder.failed g.N.FormatFields g.E.FormatEvent.line_of g.F.Filter _ g.Q.LiveQueue.settles
    c.sinks_meet_theirs.ensures c.lines_stand_in_files.ensures c.queued_lines_stand_in_files.ensures
