-- What the files of an output in the JSON format hold after a run.
use Rattle.std.proofs.Common.{◌≡◌, ◌⊎◌, inl, inr, ℕ, false, List, Option, Some, None, sym, ap, ◌∙◌}
use Rattle.std.specs.Prelude.{slice_get}
use Rattle.tracing_core_fields.specs.requests.PlainRequests.{PlainEvent}
use Rattle.tracing_appender_rolling.specs.folders.Contents.{Contents}
use Rattle.span_registry_layers_layers.specs.declared.filter.Filter.{Ghosts as FilterGhosts}
use Rattle.event_formatter_text.specs.declared.format_fields.FormatFields.{Ghosts}
use Rattle.event_formatter_text.specs.declared.settings.Settings.{Settings}
use Rattle.event_formatter.specs.formats.Contexts.{PlainContext}
use Rattle.event_formatter.specs.declared.formats.fields.Fields.{Fields}
use Rattle.event_formatter.specs.declared.formats.format.Format.{Format}
use Rattle.event_formatter.specs.declared.formats.line_format.LineFormat.{LineFormat}
use Rattle.span_tracing_outputs.specs.OutputFolds.{Numbered}
use Rattle.span_tracing_outputs.specs.TraceStacks.{TraceStackValue}
use Rattle.span_tracing_steps.specs.States.{stack_in}
use Rattle.span_tracing_laws.specs.json.Formats.{JsonFormatWritesObjects}
use Rattle.span_tracing_laws.specs.json.Objects.{IsJsonOut, KeepsJson, WritesEach}
use Rattle.span_tracing_laws.specs.runs.KeptStacks.{OutsAgree}
use Rattle.span_tracing_laws.specs.runs.Runs.{StepWithMask, steps_of}
use Rattle.span_tracing_laws.specs.json_runs.JsonRuns.{HasJsonLayer, JsonFilesHoldObjects, JsonFormatFilesHoldObjects, NoFaultIsTold}
use Rattle.span_tracing_laws.specs.json_runs.Steps.{EventsAreFormatted}
use Rattle.span_tracing_laws.proofs.machines.Layers.{matches}

module _ {T F S : Type 0} (n : Ghosts Fields) (line_of : Format LineFormat T → Settings → PlainContext → PlainEvent → Option (List ℕ))
    (g : FilterGhosts F) (writes : JsonFormatWritesObjects n line_of) where
  json_there : (stack : Option (TraceStackValue Fields (Format LineFormat T) F S)) (outs : List (Numbered Fields)) (place : ℕ)
      (o : Numbered Fields) → OutsAgree n line_of g stack outs → HasJsonLayer stack place → slice_get outs place ≡ Some o →
      KeepsJson o.out →
      IsJsonOut n o.out × WritesEach o.out.line_of
  json_there None outs place o agrees has at kept = absurd has
  json_there (Some x) outs place o agrees (row, row_is, (json, fields, shape)) at kept =
      let match = matches n line_of g x.stack.registry x.stack.rows outs place row o agrees.0 row_is at in
      writes o.out row.output.layer.format json shape match.format (sym (ap (λ c. c.fields) match.config) ∙ fields) kept

-- the output has a line of each event that can be formatted
untold : (o : Numbered Fields) (turns : List StepWithMask) → WritesEach o.out.line_of → (o.out.config.log_internal_errors ≡ false) ⊎
    EventsAreFormatted (steps_of turns) → NoFaultIsTold o turns
untold o turns each (inl off) = inl off
untold o turns each (inr formatted) = inr (each, formatted)

module _ {T F D : Type 0} (Q : Type 0) (contents : D → Option Contents) (failed : D → ℕ) (n : Ghosts Fields) (line_of : Format LineFormat T → Settings →
    PlainContext → PlainEvent → Option (List ℕ)) (g : FilterGhosts F) (writes : JsonFormatWritesObjects n line_of)
    (hold : JsonFilesHoldObjects Q contents failed n line_of g) where
  pub format_files_hold : JsonFormatFilesHoldObjects Q contents failed n line_of g
  format_files_hold v turns w stand p agrees skeleton range stack place o at has kept lines quiet =
      let json = json_there n line_of g writes (stack_in v stack) (p.outs stack) place o (agrees.1 stack) has at kept in
      hold v turns w stand p agrees skeleton range stack place o at (json.0, lines) (untold o turns json.1 quiet)
