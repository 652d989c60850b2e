-- What the files of a JSON output hold after a run.
use Rattle.std.specs.Prelude.{◌≡◌, ◌⊎◌, ℕ, false, List, Option, Some, None, IfSome, slice_get}
use Rattle.tracing_core_fields.specs.requests.PlainRequests.{PlainEvent}
use Rattle.tracing_core_moments.specs.declared.at.At.{At}
use Rattle.tracing_appender_rolling.specs.folders.Contents.{Contents}
use Rattle.span_registry_layers_layers.specs.declared.filter.Filter.{Ghosts as FilterGhosts}
use Rattle.event_formatter_text.specs.declared.format_fields.FormatFields.{Ghosts}
use Rattle.event_formatter_text.specs.declared.settings.Settings.{Settings}
use Rattle.event_formatter_lines.specs.JsonLaws.{IsObjectLine}
use Rattle.event_formatter.specs.formats.Contexts.{PlainContext}
use Rattle.event_formatter.specs.declared.formats.fields.Fields.{Fields}
use Rattle.event_formatter.specs.declared.formats.fields.Fields.TheVariants as fields
use Rattle.event_formatter.specs.declared.formats.format.Format.{Format}
use Rattle.event_formatter.specs.declared.formats.line_format.Json.{Json}
use Rattle.event_formatter.specs.declared.formats.line_format.LineFormat.{LineFormat}
use Rattle.event_formatter.specs.declared.formats.line_format.LineFormat.TheVariants as format
use Rattle.span_tracing_outputs.specs.OutputMachines.{PlainLine}
use Rattle.span_tracing_outputs.specs.OutputFolds.{Numbered}
use Rattle.span_tracing_outputs.specs.TraceStacks.{TraceStackValue}
use Rattle.span_tracing_outputs.specs.Turns.{Lined, Lines}
use Rattle.span_tracing_laws.specs.json.Objects.{AreObjectLines, IsJsonOut, KeepsJson, WritesEach}
use Rattle.span_tracing_laws.specs.json.Texts.{HoldsObjects, IsObjectLines}
use Rattle.span_tracing_laws.specs.machines.Files.{OutputsReachFiles, QueuesHold, SinksHold}
use Rattle.span_tracing_laws.specs.machines.Lines.{AreRun}
use Rattle.span_tracing_steps.specs.States.{stack_in}
use Rattle.span_tracing_laws.specs.runs.Files.{FileTrace}
use Rattle.span_tracing_laws.specs.runs.Runs.{AgreesPlain, Plain, StepWithMask, lines_of, steps_of}
use Rattle.span_tracing_laws.specs.json_runs.Steps.{EventsAreFormatted, IsSkeletonInRange, StepsInRange}

-- an output of JSON whose lines so far are objects
abbrev pub IsJsonOutput : {N : Type 0} → Ghosts N → Numbered N → Type 0
IsJsonOutput n o = IsJsonOut n o.out × AreObjectLines o.out.lines

-- the output doesn't tell events that can't be formatted, or each event of the run can be formatted, and its format has a line for each
-- that can be
abbrev pub NoFaultIsTold : {N : Type 0} → Numbered N → List StepWithMask → Type 0
NoFaultIsTold o turns = (o.out.config.log_internal_errors ≡ false) ⊎ (WritesEach o.out.line_of × EventsAreFormatted (steps_of turns))

-- each line of a run is an object and a newline
abbrev pub AreObjectsRun : List (At × PlainLine) → Type 0
AreObjectsRun run = AreRun IsObjectLine run

module _ {N : Type 0} (n : Ghosts N) where
  -- over a run with numbers in range in which no fault is told, the lines of an output of JSON are objects
  abbrev pub JsonOutputsRun : Type 0
  JsonOutputsRun =
      (p : Plain N) (turns : List StepWithMask) → IsSkeletonInRange p.skeleton → StepsInRange (steps_of turns) →
      (stack place : ℕ) (o : Numbered N) → slice_get (p.outs stack) place ≡ Some o → IsJsonOutput n o → NoFaultIsTold o turns →
      IfSome (slice_get (lines_of n p turns stack) place) AreObjectsRun

module _ {N E F D Q : Type 0} (contents : D → Option Contents) where
  -- all files of each direct sink of a stack's output at a place hold one object of JSON on each line, if the text that their opening found
  -- was made up of such, where the sink dropped no line in the run, was handed objects alone before it, and the contents of its folder are
  -- known
  abbrev pub SinksHoldObjects : FileTrace N E F D Q → FileTrace N E F D Q → ℕ → ℕ → Type 0
  SinksHoldObjects v w stack place = SinksHold contents IsObjectLine IsObjectLines HoldsObjects v w stack place

  -- So do those of each queued sink where no line found no memory, and of which objects alone waited and were handed over before. And
  -- objects alone wait after it then.
  abbrev pub QueuesHoldObjects : FileTrace N E F D Q → FileTrace N E F D Q → ℕ → ℕ → Type 0
  QueuesHoldObjects v w stack place = QueuesHold contents IsObjectLine IsObjectLines HoldsObjects v w stack place

module _ {N E F D : Type 0} (Q : Type 0) (contents : D → Option Contents) (failed : D → ℕ) (n : Ghosts N) (line_of : E → Settings → PlainContext →
    PlainEvent → Option (List ℕ)) (g : FilterGhosts F) where
  -- the files of an output of JSON hold one object on each line after a run with numbers in range in which no fault is told
  abbrev pub JsonFilesHoldObjects : Type 0
  JsonFilesHoldObjects =
      (v : FileTrace N E F D Q) (turns : List StepWithMask) (w : FileTrace N E F D Q) →
      OutputsReachFiles contents failed n line_of g v turns w →
      (p : Plain N) → AgreesPlain n line_of g v p → IsSkeletonInRange p.skeleton → StepsInRange (steps_of turns) →
      (stack place : ℕ) (o : Numbered N) → slice_get (p.outs stack) place ≡ Some o → IsJsonOutput n o → NoFaultIsTold o turns →
      SinksHoldObjects contents v w stack place × QueuesHoldObjects contents v w stack place

-- a layer has the JSON formatter of fields, and writes lines in the JSON format
abbrev pub IsJsonLayer : {T : Type 0} → Lines Fields (Format LineFormat T) → Type 0
IsJsonLayer layer = (json : Json) × (layer.config.fields ≡ fields.Json) × (layer.format.shape ≡ format.Json json)

-- the output at a place has such a layer
abbrev pub HasJsonLayer : {T F S : Type 0} → Option (TraceStackValue Fields (Format LineFormat T) F S) → ℕ → Type 0
HasJsonLayer None place = ⊥
HasJsonLayer {T} {F} (Some x) place = (row : Lined Fields (Format LineFormat T) F) × (slice_get x.stack.rows place ≡ Some row) ×
    IsJsonLayer row.output.layer

module _ {T F D : Type 0} (Q : Type 0) (contents : D → Option Contents) (failed : D → ℕ) (n : Ghosts Fields) (line_of : Format LineFormat T → Settings →
    PlainContext → PlainEvent → Option (List ℕ)) (g : FilterGhosts F) where
  -- the same of an output in the JSON format that kept no fields but objects before the run, where it doesn't tell events that can't be
  -- formatted, or each event of the run can be
  abbrev pub JsonFormatFilesHoldObjects : Type 0
  JsonFormatFilesHoldObjects =
      (v : FileTrace Fields (Format LineFormat T) F D Q) (turns : List StepWithMask) (w : FileTrace Fields (Format LineFormat T) F D Q) →
      OutputsReachFiles contents failed n line_of g v turns w →
      (p : Plain Fields) → AgreesPlain n line_of g v p → IsSkeletonInRange p.skeleton → StepsInRange (steps_of turns) →
      (stack place : ℕ) (o : Numbered Fields) → slice_get (p.outs stack) place ≡ Some o → HasJsonLayer (stack_in v stack) place →
      KeepsJson o.out →
      AreObjectLines o.out.lines →
      (o.out.config.log_internal_errors ≡ false) ⊎ EventsAreFormatted (steps_of turns) →
      SinksHoldObjects contents v w stack place × QueuesHoldObjects contents v w stack place
