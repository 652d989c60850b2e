-- What filters answer where they are levels: by reading, without asking them.
use Rattle.std.specs.Prelude.{◌≡◌, ℕ, Bool, true, false, List, map, nat_le, Option, Some, None}
use Rattle.tracing_core_fields.specs.PlainMetadata.{PlainMetadata}
use Rattle.span_registry_layers_store.specs.Verdicts.{all_pass}
use Rattle.span_registry_layers_layers.specs.declared.filter.Filter.{Ghosts as FilterGhosts}
use Rattle.span_registry_layers_layers.specs.declared.layer.Layer.{Ghosts as LayerGhosts}
use Rattle.event_formatter_text.specs.declared.format_fields.FormatFields.{Ghosts}
use Rattle.event_formatter_text.specs.declared.settings.Settings.{Settings}
use Rattle.event_formatter.specs.formats.Contexts.{PlainContext}
use Rattle.tracing_core_fields.specs.requests.PlainRequests.{PlainEvent}
use Rattle.span_tracing_outputs.specs.OutputNotices.{Notice}
use Rattle.span_tracing_outputs.specs.TraceFollows.{numbers_in, some_passes, verdicts_from}
use Rattle.span_tracing_outputs.specs.TraceStacks.{TraceStackValue}
use Rattle.span_tracing_outputs.specs.Turns.{FilterHears, Lined, Lines}
use Rattle.span_tracing_skeleton.specs.Looking.{known, named, reach}
use Rattle.span_tracing_skeleton.specs.PlainData.{PlainStep, GlobalStep, EventStep, EnabledStep, SpanStep, RecordStep, FollowsFromStep}
use Rattle.span_tracing_skeleton.specs.PlainData.{EnterStep, ExitStep, CloneStep, CloseStep, DefaultStep, ResetStep, CloneHandleStep}
use Rattle.span_tracing_skeleton.specs.PlainData.{ReleaseStep, SetStep}
use Rattle.span_tracing_skeleton.specs.Skeleton.{Answers, Unasked, Wanted, Dropped, Passed, Heard}
use Rattle.span_tracing_steps.specs.States.{held_in}
use Rattle.span_tracing_laws.specs.runs.StepFollows.{IsAnswered, Traced, skeleton_of}

-- where a stack is reached, and the callsite is known; else nobody is asked
abbrev pub if_asked : Option ℕ → Option PlainMetadata → (ℕ → PlainMetadata → Answers) → Answers
if_asked None callsite answers = Unasked
if_asked (Some stack) None answers = Unasked
if_asked (Some stack) (Some m) answers = answers stack m

module _ {N E : Type 0} where
  -- for each output, whether the callsite's level is no more verbose than the output's
  abbrev pub passing : PlainMetadata → List (Lined N E ℕ) → List Bool
  passing m rows = map (λ (row : Lined N E ℕ). nat_le m.level row.output.filter) rows

  -- a span is made where some output's level passes it
  abbrev pub made_if : Bool → List (Lined N E ℕ) → List Bool → Answers
  made_if true rows passed = Passed (verdicts_from all_pass (numbers_in rows) passed)
  made_if false rows passed = Dropped

  module _ {S : Type 0} where
    -- an event is told to each output whose level passes it
    abbrev pub heard_by : Option (TraceStackValue N E ℕ S) → PlainMetadata → Answers
    heard_by None m = Unasked
    heard_by (Some x) m = Heard (passing m x.stack.rows) (passing m x.stack.rows)

    abbrev pub wanted_by : Option (TraceStackValue N E ℕ S) → PlainMetadata → Answers
    wanted_by None m = Unasked
    wanted_by (Some x) m = Wanted (some_passes (passing m x.stack.rows))

    abbrev pub made_by : Option (TraceStackValue N E ℕ S) → PlainMetadata → Answers
    made_by None m = Unasked
    made_by (Some x) m = made_if (some_passes (passing m x.stack.rows)) x.stack.rows (passing m x.stack.rows)

    -- what the levels of a trace answer of a step that isn't refused
    abbrev pub level_answers : Traced N E ℕ S → PlainStep → Answers
    level_answers v (GlobalStep handle) = Unasked
    level_answers v (EventStep e) = if_asked (reach (skeleton_of v) e.lane) (known (skeleton_of v) e.callsite false)
        (λ stack m. heard_by (held_in v stack) m)
    level_answers v (EnabledStep call) = if_asked (reach (skeleton_of v) call.lane) (named (skeleton_of v).callsites call.callsite.0)
        (λ stack m. wanted_by (held_in v stack) m)
    level_answers v (SpanStep n) = if_asked (reach (skeleton_of v) n.lane) (known (skeleton_of v) n.callsite true)
        (λ stack m. made_by (held_in v stack) m)
    level_answers v (RecordStep r) = Unasked
    level_answers v (FollowsFromStep call) = Unasked
    level_answers v (EnterStep call) = Unasked
    level_answers v (ExitStep call) = Unasked
    level_answers v (CloneStep call) = Unasked
    level_answers v (CloseStep call) = Unasked
    level_answers v (DefaultStep call) = Unasked
    level_answers v (ResetStep call) = Unasked
    level_answers v (CloneHandleStep handle) = Unasked
    level_answers v (ReleaseStep handle) = Unasked
    level_answers v (SetStep call) = Unasked

-- Asked of a step, levels answer just that, and whatever they are told they stay.
pub record LevelsAnswer {N E : Type 0} (S : Type 0) (n : Ghosts N) (line_of : E → Settings → PlainContext → PlainEvent → Option (List ℕ))
    (g : FilterGhosts ℕ) (h : LayerGhosts (Lines N E)) : Type 0 where
  pub answers : (v : Traced N E ℕ S) (step : PlainStep) (a : Answers) → IsAnswered g h v step a → a ≡ level_answers v step
  pub stays : (number level : ℕ) (notices : List Notice) (later : ℕ) → FilterHears n line_of g number level notices later → later ≡ level
