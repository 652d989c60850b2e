use Rattle.std.proofs.Common.{sym, subst}
use Rattle.span_tracing_outputs.specs.files.OpenRefusals.{FilesRefuse}
use Rattle.span_tracing_outputs.specs.declared.files.open_error.OpenStackError.{OpenStackError}
use Rattle.span_tracing_outputs.proofs.files.FolderRefusals.{files_open, files_refuse}
use Rattle.span_tracing_outputs.proofs.files.opening.open_files.Goals as goal

pub returns-in-Ok-clause-opened : goal.returns-in-Ok-clause-opened
returns-in-Ok-clause-opened g c =
    files_open g.D.Folder.failed g.D.Folder.contents c.args.builder c.args.folder c.args.moment c.in-Ok.appender
    c.in-Ok.ensures.builds c.in-Ok.ensures.missed

pub returns-in-Err-clause-refused : goal.returns-in-Err-clause-refused
returns-in-Err-clause-refused g c =
    subst (λ (told : OpenStackError). FilesRefuse g.D.Folder.failed c.args.key told c.args.builder c.args.folder)
    (sym c.of_sink.ensures)
    (files_refuse g.D.Folder.failed g.D.Folder.contents c.args.key c.args.builder c.args.folder c.args.moment c.in-Err.refused
    c.in-Err.ensures.builds)
