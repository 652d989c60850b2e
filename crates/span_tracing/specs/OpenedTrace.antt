-- A trace that was opened with its outputs.
use Rattle.std.specs.Prelude.{◌≡◌, ◌+◌, ℕ, min, [], ◌∷◌, length, List, Option, Some}
use Rattle.tracing_core_moments.specs.declared.moment.Moment.{Moment}
use Rattle.tracing_appender_rolling.specs.folders.Contents.{Contents}
use Rattle.span_registry_layers_layers.specs.declared.filter.Filter.{Ghosts as FilterGhosts}
use Rattle.span_registry_layers_layers.specs.declared.layer.Layer.{Ghosts as LayerGhosts}
use Rattle.event_formatter.specs.declared.formats.fields.Fields.{Fields}
use Rattle.event_formatter.specs.declared.formats.format.Format.{Format}
use Rattle.event_formatter.specs.declared.formats.line_format.LineFormat.{LineFormat}
use Rattle.event_formatter.specs.declared.formats.timer.Timer.{Timer}
use Rattle.span_tracing_outputs.specs.TraceStacks.{TraceStackValue}
use Rattle.span_tracing_outputs.specs.files.OpenedStack.{OpensStack}
use Rattle.span_tracing_outputs.specs.files.Settings.{Shown}
use Rattle.span_tracing_outputs.specs.sinks.Routed.{Routed}
use Rattle.span_tracing_outputs.specs.declared.files.output_spec.OutputSpec.{OutputSpec}
use Rattle.span_tracing_outputs.specs.declared.sinks.any_sink.AnySink.{AnySink}
use Rattle.span_tracing_skeleton.specs.Looking.{reach}
use Rattle.span_tracing_skeleton.specs.Skeleton.{Own, Unset}
use Rattle.span_tracing_laws.specs.runs.KeptStacks.{StackStays}
use Rattle.span_tracing_laws.specs.runs.StepFollows.{Traced, skeleton_of}

module _ {F D Q : Type 0} (contents : D → Option Contents) (failed : D → ℕ) (g : FilterGhosts F) (h : LayerGhosts Shown) (m : Moment) where
  -- the stack is there. Its outputs and sinks are those of a new stack of these outputs, whose files were opened at the moment, and
  -- its registry is that of the new stack, without a span
  abbrev pub HasOutputs : List (OutputSpec F D Q) → Option (TraceStackValue Fields (Format LineFormat Timer) F (Routed (AnySink D Q))) →
      Type 0
  HasOutputs specs stack =
      (made : TraceStackValue Fields (Format LineFormat Timer) F (Routed (AnySink D Q))) ×
      OpensStack contents failed g h m [] specs made × StackStays (Some made) stack

-- how many sinks outputs ask for; the number stops at the greatest one
abbrev pub sinks_asked : {F D Q : Type 0} → List (OutputSpec F D Q) → ℕ
sinks_asked [] = 0
sinks_asked (spec ∷ specs) = min (sinks_asked specs + length spec.sinks.items) 18446744073709551615

-- the trace has one stack, one lane, one handle and no guard: the lane reaches the stack, by the global default
pub record ReachesFirst {N E F S : Type 0} (v : Traced N E F S) : Type 0 where
  pub given : (skeleton_of v).given ≡ 1
  pub lanes : (skeleton_of v).lanes ≡ Unset ∷ []
  pub default : (skeleton_of v).default ≡ Own 0
  pub reached : reach (skeleton_of v) 0 ≡ Some 0
  pub handles : (skeleton_of v).handles ≡ Some 0 ∷ []
  pub guards : (skeleton_of v).guards ≡ []
