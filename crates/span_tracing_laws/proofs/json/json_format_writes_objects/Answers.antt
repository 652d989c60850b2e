use Rattle.std.proofs.Common.{refl}
use Rattle.span_tracing_laws.proofs.json.Formats.{json_format}
use Rattle.span_tracing_laws.proofs.json.json_format_writes_objects.Goals as goal

pub returns : goal.returns
returns g c =
    let objects = c.json_fields_keep_objects.ensures.objects in
    json_format _ _ g.T.FormatTime.text_at c.lines_are_json.ensures (
      λ settings. objects.0 (record {}) settings,
      λ fields values. objects.1 (record {}) fields values,
    ) (λ layout settings c e. refl)
