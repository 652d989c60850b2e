-- Outputs in the JSON format.
use Rattle.std.specs.Prelude.{◌≡◌, ℕ, List, Option}
use Rattle.tracing_core_fields.specs.requests.PlainRequests.{PlainEvent}
use Rattle.event_formatter_text.specs.declared.format_fields.FormatFields.{Ghosts}
use Rattle.event_formatter_text.specs.declared.settings.Settings.{Settings}
use Rattle.event_formatter.specs.formats.Contexts.{PlainContext}
use Rattle.event_formatter.specs.declared.formats.fields.Fields.{Fields}
use Rattle.event_formatter.specs.declared.formats.fields.Fields.TheVariants as fields
use Rattle.event_formatter.specs.declared.formats.format.Format.{Format}
use Rattle.event_formatter.specs.declared.formats.line_format.Json.{Json}
use Rattle.event_formatter.specs.declared.formats.line_format.LineFormat.{LineFormat}
use Rattle.event_formatter.specs.declared.formats.line_format.LineFormat.TheVariants as format
use Rattle.span_tracing_outputs.specs.OutputMachines.{PlainOut}
use Rattle.span_tracing_laws.specs.json.Objects.{IsJsonOut, KeepsJson, WritesEach}

-- the lines of an output are those of a format
abbrev pub WritesIn : {N E : Type 0} → (E → Settings → PlainContext → PlainEvent → Option (List ℕ)) → PlainOut N → E → Type 0
WritesIn line_of o layout = (settings : Settings) (c : PlainContext) (e : PlainEvent) → line_of layout settings c e ≡ o.line_of settings c e

-- an output with the JSON formatter of fields, lines in the JSON format, and no kept fields but objects is an output of JSON, and has a
-- line for each event that can be formatted
abbrev pub JsonFormatWritesObjects : {T : Type 0} → Ghosts Fields →
    (Format LineFormat T → Settings → PlainContext → PlainEvent → Option (List ℕ)) → Type 0
JsonFormatWritesObjects {T} n line_of =
    (o : PlainOut Fields) (layout : Format LineFormat T) (json : Json) → layout.shape ≡ format.Json json → WritesIn line_of o layout →
    o.config.fields ≡ fields.Json → KeepsJson o →
    IsJsonOut n o × WritesEach o.line_of
