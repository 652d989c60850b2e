-- Over runs of tame steps no line of a harmless output steers a terminal, and so no file does.
use Rattle.std.proofs.Common.{ℕ, List, Option, IfSome, refl, sym, subst}
use Rattle.tracing_core_fields.specs.requests.PlainRequests.{PlainEvent}
use Rattle.tracing_appender_rolling.specs.folders.Contents.{Contents}
use Rattle.span_registry_layers_layers.specs.declared.filter.Filter.{Ghosts as FilterGhosts}
use Rattle.event_formatter_text.specs.HarmlessTexts.{AreTame, LetsPass}
use Rattle.event_formatter_text.specs.declared.format_fields.FormatFields.{Ghosts}
use Rattle.event_formatter_text.specs.declared.settings.Settings.{Settings}
use Rattle.event_formatter_text.proofs.TerminalControls.{both_pass, passing_is}
use Rattle.event_formatter.specs.formats.Contexts.{PlainContext}
use Rattle.span_tracing_outputs.specs.OutputMachines.{Fated, PlainOut, out_run, rested}
use Rattle.span_tracing_outputs.specs.OutputFolds.{Numbered}
use Rattle.span_tracing_outputs.specs.OutputSettings.{out_set}
use Rattle.span_tracing_skeleton.specs.declared.setting.Setting.{Setting}
use Rattle.span_tracing_skeleton.specs.declared.setting.Setting.TheVariants.{Ansi, SpanEvents}
use Rattle.span_tracing_laws.specs.harmless.Lines.{IsTameEvent, IsTameMetadata}
use Rattle.span_tracing_laws.specs.harmless.Outputs.{AreHarmlessLines, AreTameNotices, IsHarmlessOut, IsTameSeen, OutputsStayHarmless}
use Rattle.span_tracing_laws.specs.harmless.Runs.{FilesStayHarmless, HarmlessOutputsFillFiles, HarmlessOutputsRun, HarmlessRunsFillFiles}
use Rattle.span_tracing_laws.specs.harmless.Runs.{IsHarmlessText, PassingTextsAreHarmless}
use Rattle.span_tracing_laws.specs.harmless.Steps.{AreTameForEach, IsTameRequest, LeavesStylesOff}
use Rattle.span_tracing_laws.proofs.harmless.Steps.{AreThese, event_is, metadata_is, record_is, span_is}
use Rattle.span_tracing_laws.proofs.harmless.Texts.{nothing}
use Rattle.span_tracing_laws.proofs.machines.Files.{files_keep}
use Rattle.span_tracing_laws.proofs.machines.OutputFiles.{outputs_hold}
use Rattle.span_tracing_laws.proofs.machines.Outputs.{run_is}

-- lines
module _ {N : Type 0} (n : Ghosts N) (stay : OutputsStayHarmless n) where
  abbrev IsQuiet : PlainOut N → Type 0
  IsQuiet o = IsHarmlessOut n o × AreHarmlessLines o.lines

  rested_is : (o : PlainOut N) → IsQuiet o → IsQuiet (rested o)
  rested_is o (is, lines) = (
    record {
      format = is.format;
      texts = is.texts;
      keeps = is.keeps;
      settings = is.settings;
      lanes = is.lanes;
      kept = is.kept;
    },
    tt,
  )

  set_is : (o : Numbered N) (setting : Setting) → LeavesStylesOff setting → IsQuiet o.out → IsQuiet (out_set setting o).out
  set_is o (Ansi on) off (is, lines) = (
    record {
      format = is.format;
      texts = is.texts;
      keeps = is.keeps;
      settings = (off, is.settings.1);
      lanes = is.lanes;
      kept = is.kept;
    },
    lines,
  )
  set_is o (SpanEvents moments) off (is, lines) = (
    record {
      format = is.format;
      texts = is.texts;
      keeps = is.keeps;
      settings = is.settings;
      lanes = is.lanes;
      kept = is.kept;
    },
    lines,
  )

  goes_on : (o : PlainOut N) (ts : List Fated) → AreTameNotices ts → IsQuiet o → IsQuiet (out_run n o ts)
  goes_on o ts tame (is, lines) = stay o ts tame is lines

  pub outputs_run : HarmlessOutputsRun n
  outputs_run p turns skeleton tame stack place o at is lines =
      let these = p.skeleton.callsites in
      run_is IsTameSeen IsTameMetadata AreTame IsTameEvent (λ x metadata. (metadata.name, metadata.target)) n LetsPass LeavesStylesOff
      IsQuiet (λ x quiet. quiet.1) rested_is goes_on set_is (AreThese these) (IsTameRequest these) (IsTameRequest these)
      (AreTameForEach these) (metadata_is these) (event_is these) (span_is these) (record_is these) stack p turns place (
        record { callsites = (refl, skeleton.callsites); spans = skeleton.spans },
        subst (λ (x : Option (Numbered N)). IfSome x (λ (y : Numbered N). IsQuiet y.out)) (sym at) (is, lines),
      )
      tame

-- files
pub files_stay : FilesStayHarmless
files_stay = files_keep LetsPass LetsPass nothing both_pass (λ line passes. passes)

pub texts_are : PassingTextsAreHarmless
texts_are text passes = (passes, passing_is text passes)

module _ {N E F D : Type 0} (Q : Type 0) (contents : D → Option Contents) (failed : D → ℕ) (n : Ghosts N) (line_of : E → Settings → PlainContext →
    PlainEvent → Option (List ℕ)) (g : FilterGhosts F) where
  pub runs_fill : FilesStayHarmless → PassingTextsAreHarmless → HarmlessRunsFillFiles Q contents failed n line_of g
  runs_fill files texts v turns w reach p agrees stack place lines =
      outputs_hold contents failed n line_of g LetsPass LetsPass IsHarmlessText files texts v turns w reach p agrees stack place lines

  pub outputs_fill : HarmlessOutputsRun n → HarmlessRunsFillFiles Q contents failed n line_of g →
      HarmlessOutputsFillFiles Q contents failed n line_of g
  outputs_fill run fill v turns w reach p agrees skeleton tame stack place o at is lines =
      fill v turns w reach p agrees stack place (run p turns skeleton tame stack place o at is lines)
