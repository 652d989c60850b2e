-- What the counts of starved texts and lines say of a run.
use Rattle.std.specs.Prelude.{◌≡◌, ◌≤◌, ◌<◌, ℕ, zero, suc, Bool, List, [], ◌∷◌, ◌++◌, map, Option, Some, None, slice_get}
use Rattle.tracing_core_fields.specs.requests.PlainRequests.{PlainEvent}
use Rattle.tracing_core_moments.specs.declared.at.At.{At}
use Rattle.span_registry_layers_layers.specs.declared.filter.Filter.{Ghosts as FilterGhosts}
use Rattle.span_registry_layers_layers.specs.declared.layer.Layer.{Ghosts as LayerGhosts}
use Rattle.event_formatter_text.specs.declared.format_fields.FormatFields.{Ghosts}
use Rattle.event_formatter_text.specs.declared.settings.Settings.{Settings}
use Rattle.event_formatter.specs.formats.Contexts.{PlainContext}
use Rattle.span_tracing_outputs.specs.OutputMachines.{Fated, PlainLine, starved_by, with_fates}
use Rattle.span_tracing_outputs.specs.OutputNotices.{heards}
use Rattle.span_tracing_outputs.specs.OutputFolds.{Fates, Numbered, first_of, rest_of}
use Rattle.span_tracing_outputs.specs.TraceStacks.{TraceStackValue}
use Rattle.span_tracing_outputs.specs.Turns.{Lined, Lines}
use Rattle.span_tracing_skeleton.specs.declared.call.Reply.{Reply}
use Rattle.span_tracing_skeleton.specs.declared.queue_call.QueueCall.{QueueCall}
use Rattle.span_tracing_steps.specs.States.{stack_in}
use Rattle.span_tracing_laws.specs.runs.Runs.{AgreesPlain, Drove, Plain, Road, Starved, StepWithMask, TurnsGo, Waited, Went, lines_of}
use Rattle.span_tracing_laws.specs.runs.Runs.{plain_after, plain_run}
use Rattle.span_tracing_laws.specs.runs.StepFollows.{Traced}
use Rattle.span_tracing_laws.specs.runs.StepNotices.{Told, told_of, told_to}
use Rattle.span_tracing_laws.specs.runs.StepSettings.{outs_with, setting_of}

-- how many texts and lines of an output found no memory, as its layer counts them
abbrev pub starved_of : {N E F : Type 0} → Lined N E F → ℕ
starved_of row = row.output.layer.output.starved

-- so of each output of a stack
abbrev pub starved_in : {N E F S : Type 0} → Option (TraceStackValue N E F S) → List ℕ
starved_in None = []
starved_in (Some x) = map starved_of x.stack.rows

-- of lists for each output, that of the output at a place; nothing where there is none
abbrev pub list_at : {A : Type 0} → List (List A) → ℕ → List A
list_at lists zero = first_of lists
list_at lists (suc place) = list_at (rest_of lists) place

-- what the output at a place is told, with what became of its texts and lines
abbrev pub fated_by : {N : Type 0} → Option (Told N) → List (Numbered N) → Fates → ℕ → List Fated
fated_by None outs fates place = []
fated_by (Some told) outs fates place = with_fates (heards (list_at (told.lists outs) place)) (list_at fates place)

-- so in a turn
abbrev pub turn_fated : {N : Type 0} → Plain N → StepWithMask → ℕ → ℕ → List Fated
turn_fated {N} p (Went step a fates) stack place =
    fated_by (told_to N stack (told_of N p.skeleton step a)) (outs_with stack (setting_of p.skeleton step) (p.outs stack)) fates place
turn_fated p (Starved step) stack place = []
turn_fated p (Waited step) stack place = []
turn_fated p (Drove ask answer) stack place = []

-- the same turn where all texts and lines of all outputs find memory
abbrev pub as_whole : StepWithMask → StepWithMask
as_whole (Went step a fates) = Went step a []
as_whole (Starved step) = Starved step
as_whole (Waited step) = Waited step
as_whole (Drove ask answer) = Drove ask answer

module _ {N : Type 0} (n : Ghosts N) where
  -- what the output at a place of a stack is told in a run, in order
  abbrev pub run_fated : Plain N → List StepWithMask → ℕ → ℕ → List Fated
  run_fated p [] stack place = []
  run_fated p (t ∷ ts) stack place = turn_fated p t stack place ++ run_fated (plain_after n p t) ts stack place

  -- the output at a place of a stack offers the lines that it offers where everything finds memory, and ends as it does there
  pub record IsWhole (p : Plain N) (turns : List StepWithMask) (stack place : ℕ) : Type 0 where
    pub lines : slice_get (lines_of n p turns stack) place ≡ slice_get (lines_of n p (map as_whole turns) stack) place
    pub out : slice_get ((plain_run n p turns).outs stack) place ≡ slice_get ((plain_run n p (map as_whole turns)).outs stack) place

-- The count of an output after a run is what the run makes of it: one more for each text and each line that found no memory, up to the
-- greatest number. So it never falls. Where it is what it was before, below the greatest number, nothing of this output was starved.
pub record CountsStarved {N E F S : Type 0} (n : Ghosts N) (p : Plain N) (turns : List StepWithMask) (w : Traced N E F S)
    (stack place before : ℕ) : Type 0 where
  pub counts : slice_get (starved_in (stack_in w stack)) place ≡ Some (starved_by (run_fated n p turns stack place) before)
  pub rises : before ≤ 18446744073709551615 → before ≤ starved_by (run_fated n p turns stack place) before
  pub whole : slice_get (starved_in (stack_in w stack)) place ≡ Some before → before < 18446744073709551615 →
      IsWhole n p turns stack place

module _ {N E F S : Type 0} (n : Ghosts N) (line_of : E → Settings → PlainContext → PlainEvent → Option (List ℕ)) (g : FilterGhosts F)
    (takes : S → At → PlainLine → S → Type 0) (calls : ℕ → QueueCall → List S → Reply → List S → Type 0) (held : List S → Bool)
    (h : LayerGhosts (Lines N E)) where
  -- so it is of each output of each stack, also of one that was released, from each plain state that the trace agrees with
  abbrev pub NothingIsStarved : Type 0
  NothingIsStarved = (road : Road) (v : Traced N E F S) (turns : List StepWithMask) (replies : List Reply) (w : Traced N E F S) →
      TurnsGo n line_of g takes calls held h road v turns replies w → (p : Plain N) → AgreesPlain n line_of g v p →
      (stack place before : ℕ) → slice_get (starved_in (stack_in v stack)) place ≡ Some before →
      CountsStarved n p turns w stack place before
