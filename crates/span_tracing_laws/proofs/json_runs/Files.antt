-- What the files of a JSON output hold after a run.
use Rattle.std.proofs.Common.{ℕ, List, Option}
use Rattle.tracing_core_fields.specs.requests.PlainRequests.{PlainEvent}
use Rattle.tracing_appender_rolling.specs.folders.Contents.{Contents}
use Rattle.span_registry_layers_layers.specs.declared.filter.Filter.{Ghosts as FilterGhosts}
use Rattle.event_formatter_text.specs.declared.format_fields.FormatFields.{Ghosts}
use Rattle.event_formatter_text.specs.declared.settings.Settings.{Settings}
use Rattle.event_formatter_lines.specs.JsonLaws.{IsObjectLine}
use Rattle.event_formatter.specs.formats.Contexts.{PlainContext}
use Rattle.span_tracing_laws.specs.json.Texts.{FilesHoldObjects, HoldsObjects, IsObjectLines, LinesGiveObjects}
use Rattle.span_tracing_laws.specs.json_runs.JsonRuns.{JsonFilesHoldObjects, JsonOutputsRun}
use Rattle.span_tracing_laws.proofs.machines.OutputFiles.{outputs_hold}

module _ {N E F D : Type 0} (Q : Type 0) (contents : D → Option Contents) (failed : D → ℕ) (n : Ghosts N) (line_of : E → Settings → PlainContext →
    PlainEvent → Option (List ℕ)) (g : FilterGhosts F) (runs : JsonOutputsRun n) (files : FilesHoldObjects) (give : LinesGiveObjects) where
  pub files_hold : JsonFilesHoldObjects Q contents failed n line_of g
  files_hold v turns w reach p agrees skeleton range stack place o at json quiet =
      outputs_hold contents failed n line_of g IsObjectLine IsObjectLines HoldsObjects files give v turns w reach p agrees stack place
      (runs p turns skeleton range stack place o at json quiet)
