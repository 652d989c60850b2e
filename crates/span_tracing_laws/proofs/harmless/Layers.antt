-- A machine that agrees with a harmless layer is a harmless output.
use Rattle.std.proofs.Common.{◌≡◌, ℕ, ℤ, List, Option, Some, None, IfSome, subst}
use Rattle.std.specs.Prelude.{slice_get}
use Rattle.tracing_core_fields.specs.requests.PlainRequests.{PlainEvent}
use Rattle.tracing_appender_rolling.specs.folders.Contents.{Contents}
use Rattle.span_registry_layers_layers.specs.declared.filter.Filter.{Ghosts as FilterGhosts}
use Rattle.event_formatter_text.specs.HarmlessTexts.{LetsPass}
use Rattle.event_formatter_text.specs.TerminalControls.{AreHarmless}
use Rattle.event_formatter_text.specs.declared.format_fields.FormatFields.{Ghosts}
use Rattle.event_formatter_text.specs.declared.settings.Settings.{Settings}
use Rattle.event_formatter.specs.formats.Contexts.{PlainContext}
use Rattle.event_formatter.specs.declared.fmt_layer.layer.Config.{Config}
use Rattle.event_formatter.specs.declared.formats.fields.Fields.{Fields}
use Rattle.event_formatter.specs.declared.formats.format.Format.{Format}
use Rattle.event_formatter.specs.declared.formats.line_format.LineFormat.{LineFormat}
use Rattle.span_tracing_outputs.specs.OutputFolds.{Numbered}
use Rattle.span_tracing_outputs.specs.TraceStacks.{TraceStackValue}
use Rattle.span_tracing_steps.specs.States.{stack_in}
use Rattle.span_tracing_laws.specs.harmless.Kept.{KeepsHarmlessTexts, KeptTextsAreHarmless, WritesHarmlessTexts}
use Rattle.span_tracing_laws.specs.harmless.Lines.{FormatsWriteHarmlessLines}
use Rattle.span_tracing_laws.specs.harmless.Outputs.{AreTameLanes, IsHarmlessOut, KeepsHarmless}
use Rattle.span_tracing_laws.specs.harmless.Runs.{HarmlessFormatsFillFiles, HarmlessOutputsFillFiles, HasHarmlessLayer}
use Rattle.span_tracing_laws.specs.runs.KeptStacks.{OutsAgree}
use Rattle.span_tracing_laws.proofs.machines.Layers.{matches}

module _ {T F S : Type 0} (n : Ghosts Fields) (text_at : T → ℤ → ℕ → Option (List ℕ))
    (line_of : Format LineFormat T → Settings → PlainContext → PlainEvent → Option (List ℕ)) (g : FilterGhosts F)
    (kept_are : KeptTextsAreHarmless n) (lines_are : FormatsWriteHarmlessLines text_at line_of) where
  out_is : (stack : Option (TraceStackValue Fields (Format LineFormat T) F S)) (outs : List (Numbered Fields)) (place : ℕ)
      (o : Numbered Fields) → OutsAgree n line_of g stack outs → HasHarmlessLayer text_at stack place → slice_get outs place ≡ Some o →
      AreTameLanes o.out.lanes → KeepsHarmless o.out → IsHarmlessOut n o.out
  out_is None outs place o agrees has at lanes kept = absurd has
  out_is (Some x) outs place o agrees (row, row_is, layer) at lanes kept =
      let match = matches n line_of g x.stack.registry x.stack.rows outs place row o agrees.0 row_is at in
      let its = row.output.layer in
      let fields = kept_are its.config.fields layer.fields in
      let made = subst (λ (config : Config Fields). WritesHarmlessTexts n config.fields × KeepsHarmlessTexts n config.fields
      × AreHarmless config.settings) match.config (fields.0, fields.1, layer.settings) in
      record {
        format = λ settings harmless c context e tame.
            subst (λ (line : Option (List ℕ)). IfSome line LetsPass) (match.format settings c e)
            (lines_are its.format layer.layout settings harmless c context e tame);
        texts = made.0;
        keeps = made.1;
        settings = made.2;
        lanes = lanes;
        kept = kept;
      }

module _ {T F D : Type 0} (Q : Type 0) (contents : D → Option Contents) (failed : D → ℕ) (n : Ghosts Fields) (text_at : T → ℤ → ℕ → Option (List ℕ))
    (line_of : Format LineFormat T → Settings → PlainContext → PlainEvent → Option (List ℕ)) (g : FilterGhosts F)
    (kept_are : KeptTextsAreHarmless n) (lines_are : FormatsWriteHarmlessLines text_at line_of)
    (fill : HarmlessOutputsFillFiles Q contents failed n line_of g) where
  pub formats_fill : HarmlessFormatsFillFiles Q contents failed n text_at line_of g
  formats_fill v turns w reach p agrees skeleton tame stack place o at has lanes kept lines =
      fill v turns w reach p agrees skeleton tame stack place o at
      (out_is n text_at line_of g kept_are lines_are (stack_in v stack) (p.outs stack) place o (agrees.1 stack) has at lanes kept) lines
