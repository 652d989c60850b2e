use Rattle.std.proofs.Common.{refl}
use Rattle.span_tracing_laws.proofs.harmless.Lines.{formats_write}
use Rattle.span_tracing_laws.proofs.harmless.formats_write_harmless_lines.Goals as goal

pub returns : goal.returns
returns g c =
    let lines = c.lines_are_harmless.ensures in
    formats_write _ g.T.FormatTime.text_at c.fields_are_harmless.ensures.lists lines.full lines.compact lines.pretty
    (λ layout settings c e. refl)
