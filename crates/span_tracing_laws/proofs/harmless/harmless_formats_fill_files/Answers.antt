use Rattle.span_tracing_laws.proofs.harmless.Layers.{formats_fill}
use Rattle.span_tracing_laws.proofs.harmless.harmless_formats_fill_files.Goals as goal

pub returns : goal.returns
returns g c =
    formats_fill _ g.D.Folder.contents g.D.Folder.failed _ g.T.FormatTime.text_at _ g.F.Filter c.kept_texts_are_harmless.ensures
    c.formats_write_harmless_lines.ensures c.harmless_outputs_fill_files.ensures
