-- Lines and files of outputs over runs, where nothing in them steers a terminal.
use Rattle.std.specs.Prelude.{◌≡◌, ℕ, ℤ, false, List, Option, Some, None, IfSome, slice_get}
use Rattle.tracing_core_fields.specs.requests.PlainRequests.{PlainEvent}
use Rattle.tracing_appender_rolling.specs.folders.Contents.{Contents}
use Rattle.span_registry_layers_layers.specs.declared.filter.Filter.{Ghosts as FilterGhosts}
use Rattle.event_formatter_text.specs.HarmlessTexts.{LetsPass}
use Rattle.event_formatter_text.specs.TerminalControls.{AreHarmless, steers}
use Rattle.event_formatter_text.specs.declared.format_fields.FormatFields.{Ghosts}
use Rattle.event_formatter_text.specs.declared.settings.Settings.{Settings}
use Rattle.event_formatter.specs.formats.Contexts.{PlainContext}
use Rattle.event_formatter.specs.declared.formats.fields.Fields.{Fields}
use Rattle.event_formatter.specs.declared.formats.format.Format.{Format}
use Rattle.event_formatter.specs.declared.formats.line_format.LineFormat.{LineFormat}
use Rattle.span_tracing_outputs.specs.OutputFolds.{Numbered}
use Rattle.span_tracing_outputs.specs.TraceStacks.{TraceStackValue}
use Rattle.span_tracing_outputs.specs.Turns.{Lined, Lines}
use Rattle.span_tracing_steps.specs.States.{stack_in}
use Rattle.span_tracing_laws.specs.harmless.Kept.{IsForPeople}
use Rattle.span_tracing_laws.specs.harmless.Lines.{IsHarmlessLayout}
use Rattle.span_tracing_laws.specs.harmless.Outputs.{AreHarmlessLines, AreTameLanes, IsHarmlessOut, KeepsHarmless}
use Rattle.span_tracing_laws.specs.harmless.Steps.{AreTameSteps, IsTameSkeleton}
use Rattle.span_tracing_laws.specs.machines.Files.{FilesKeep, OutputsReachFiles, QueuesHold, SinksHold}
use Rattle.span_tracing_laws.specs.machines.Lines.{AreRun}
use Rattle.span_tracing_laws.specs.runs.Files.{FileTrace}
use Rattle.span_tracing_laws.specs.runs.Runs.{AgreesPlain, Plain, StepWithMask, lines_of, steps_of}

-- a text that steers nothing, alone and before any other text
abbrev pub IsHarmlessText : List ℕ → Type 0
IsHarmlessText text = LetsPass text × (steers text ≡ false)

-- a file that harmless lines alone came to is harmless, if the text that its opening found is
abbrev pub FilesStayHarmless : Type 0
FilesStayHarmless = FilesKeep LetsPass LetsPass

-- what lets pass what stands behind it steers nothing itself
abbrev pub PassingTextsAreHarmless : Type 0
PassingTextsAreHarmless = (text : List ℕ) → LetsPass text → IsHarmlessText text

module _ {N : Type 0} (n : Ghosts N) where
  -- over a run of tame steps no line of a harmless output steers a terminal
  abbrev pub HarmlessOutputsRun : Type 0
  HarmlessOutputsRun =
      (p : Plain N) (turns : List StepWithMask) → IsTameSkeleton p.skeleton → AreTameSteps p.skeleton.callsites (steps_of turns) →
      (stack place : ℕ) (o : Numbered N) → slice_get (p.outs stack) place ≡ Some o → IsHarmlessOut n o.out →
      AreHarmlessLines o.out.lines → IfSome (slice_get (lines_of n p turns stack) place) (AreRun LetsPass)

module _ {N E F D Q : Type 0} (contents : D → Option Contents) where
  -- No file of a direct sink of a stack's output at a place steers a terminal, if the text that its opening found didn't, where the sink
  -- dropped no line in the run, was handed harmless lines alone before it, and the contents of its folder are known.
  abbrev pub SinksHoldHarmless : FileTrace N E F D Q → FileTrace N E F D Q → ℕ → ℕ → Type 0
  SinksHoldHarmless v w stack place = SinksHold contents LetsPass LetsPass IsHarmlessText v w stack place

  -- Nor does one of a queued sink where no line found no memory, and of which harmless lines alone waited and were handed over before. And
  -- harmless lines alone wait after it then.
  abbrev pub QueuesHoldHarmless : FileTrace N E F D Q → FileTrace N E F D Q → ℕ → ℕ → Type 0
  QueuesHoldHarmless v w stack place = QueuesHold contents LetsPass LetsPass IsHarmlessText v w stack place

module _ {N E F D : Type 0} (Q : Type 0) (contents : D → Option Contents) (failed : D → ℕ) (n : Ghosts N) (line_of : E → Settings → PlainContext →
    PlainEvent → Option (List ℕ)) (g : FilterGhosts F) where
  -- where no line of an output over a run steers a terminal, no file does after it
  abbrev pub HarmlessRunsFillFiles : Type 0
  HarmlessRunsFillFiles =
      (v : FileTrace N E F D Q) (turns : List StepWithMask) (w : FileTrace N E F D Q) →
      OutputsReachFiles contents failed n line_of g v turns w → (p : Plain N) → AgreesPlain n line_of g v p → (stack place : ℕ) →
      IfSome (slice_get (lines_of n p turns stack) place) (AreRun LetsPass) →
      SinksHoldHarmless contents v w stack place × QueuesHoldHarmless contents v w stack place

  -- so it is of a harmless output over a run of tame steps
  abbrev pub HarmlessOutputsFillFiles : Type 0
  HarmlessOutputsFillFiles =
      (v : FileTrace N E F D Q) (turns : List StepWithMask) (w : FileTrace N E F D Q) →
      OutputsReachFiles contents failed n line_of g v turns w → (p : Plain N) → AgreesPlain n line_of g v p →
      IsTameSkeleton p.skeleton → AreTameSteps p.skeleton.callsites (steps_of turns) →
      (stack place : ℕ) (o : Numbered N) → slice_get (p.outs stack) place ≡ Some o → IsHarmlessOut n o.out →
      AreHarmlessLines o.out.lines →
      SinksHoldHarmless contents v w stack place × QueuesHoldHarmless contents v w stack place

-- a layer writes fields and lines for people, without styles and sanitized
pub record IsHarmlessLayer {T : Type 0} (text_at : T → ℤ → ℕ → Option (List ℕ)) (layer : Lines Fields (Format LineFormat T)) : Type 0 where
  pub fields : IsForPeople layer.config.fields
  pub layout : IsHarmlessLayout text_at layer.format
  pub settings : AreHarmless layer.config.settings

-- the output at a place has such a layer
abbrev pub HasHarmlessLayer : {T F S : Type 0} → (T → ℤ → ℕ → Option (List ℕ)) →
    Option (TraceStackValue Fields (Format LineFormat T) F S) → ℕ → Type 0
HasHarmlessLayer text_at None place = ⊥
HasHarmlessLayer {T} {F} text_at (Some x) place =
    (row : Lined Fields (Format LineFormat T) F) × (slice_get x.stack.rows place ≡ Some row) × IsHarmlessLayer text_at row.output.layer

module _ {T F D : Type 0} (Q : Type 0) (contents : D → Option Contents) (failed : D → ℕ) (n : Ghosts Fields) (text_at : T → ℤ → ℕ → Option (List ℕ))
    (line_of : Format LineFormat T → Settings → PlainContext → PlainEvent → Option (List ℕ)) (g : FilterGhosts F) where
  -- and of an output with such a layer, where no thread's name steers a terminal, and nothing did that was kept of spans before the run
  abbrev pub HarmlessFormatsFillFiles : Type 0
  HarmlessFormatsFillFiles =
      (v : FileTrace Fields (Format LineFormat T) F D Q) (turns : List StepWithMask) (w : FileTrace Fields (Format LineFormat T) F D Q) →
      OutputsReachFiles contents failed n line_of g v turns w → (p : Plain Fields) → AgreesPlain n line_of g v p →
      IsTameSkeleton p.skeleton → AreTameSteps p.skeleton.callsites (steps_of turns) →
      (stack place : ℕ) (o : Numbered Fields) → slice_get (p.outs stack) place ≡ Some o →
      HasHarmlessLayer text_at (stack_in v stack) place → AreTameLanes o.out.lanes → KeepsHarmless o.out → AreHarmlessLines o.out.lines →
      SinksHoldHarmless contents v w stack place × QueuesHoldHarmless contents v w stack place
