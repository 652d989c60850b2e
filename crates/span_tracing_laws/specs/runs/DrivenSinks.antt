-- What a call on a sink's queue makes of a trace, and leaves of it.
use Rattle.std.specs.Prelude.{◌≡◌, ◌==◌, ℕ, Bool, true, false, List, Option, Some, None}
use Rattle.tracing_core_fields.specs.requests.PlainRequests.{PlainEvent}
use Rattle.span_registry_layers_layers.specs.declared.filter.Filter.{Ghosts as FilterGhosts}
use Rattle.event_formatter_text.specs.declared.format_fields.FormatFields.{Ghosts}
use Rattle.event_formatter_text.specs.declared.settings.Settings.{Settings}
use Rattle.event_formatter.specs.formats.Contexts.{PlainContext}
use Rattle.span_tracing_outputs.specs.OutputFolds.{Numbered}
use Rattle.span_tracing_outputs.specs.TraceStacks.{TraceStackValue}
use Rattle.span_tracing_skeleton.specs.declared.call.Reply.{Reply}
use Rattle.span_tracing_skeleton.specs.declared.queue_call.QueueCall.{QueueCall}
use Rattle.span_tracing_skeleton.specs.declared.setting.OutputPlace.{OutputPlace}
use Rattle.span_tracing_steps.specs.States.{stack_in}
use Rattle.span_tracing_laws.specs.runs.KeptStacks.{OutsAgree}
use Rattle.span_tracing_laws.specs.runs.StepFollows.{Traced, skeleton_of}

module _ {S : Type 0} (calls : ℕ → QueueCall → List S → Reply → List S → Type 0) {N E F : Type 0} where
  -- the sinks of a stack are called, and its outputs stay as they are
  abbrev pub drives : TraceStackValue N E F S → ℕ → QueueCall → Reply → TraceStackValue N E F S → Type 0
  drives x number call reply y = (y.stack ≡ x.stack) × calls number call x.sinks reply y.sinks

  abbrev pub DrivenIf : Bool → ℕ → QueueCall → Reply → Option (TraceStackValue N E F S) → Option (TraceStackValue N E F S) → Type 0
  DrivenIf false place call reply o p = p ≡ o
  DrivenIf true place call reply None p = p ≡ None
  DrivenIf true place call reply (Some x) p = (y : TraceStackValue N E F S) × drives x place call reply y × (p ≡ Some y)

  -- of the stack with a number: its sinks are called where the place of the sink is in it, and else it stays
  abbrev pub DrivenAt : Option OutputPlace → QueueCall → Reply → ℕ → Option (TraceStackValue N E F S) →
      Option (TraceStackValue N E F S) → Type 0
  DrivenAt None call reply number o p = p ≡ o
  DrivenAt (Some at) call reply number o p = DrivenIf (at.stack == number) at.place call reply o p

-- whether a line is held at a stack's sinks
abbrev pub holds : {N E F S : Type 0} → (List S → Bool) → TraceStackValue N E F S → Bool
holds held x = held x.sinks

module _ {N E F S : Type 0} (n : Ghosts N) (line_of : E → Settings → PlainContext → PlainEvent → Option (List ℕ)) (g : FilterGhosts F) where
  -- the trace has the same skeleton, and its outputs agree with the machines that they agreed with
  pub record DriveKeeps (v w : Traced N E F S) : Type 0 where
    pub skeleton : skeleton_of w ≡ skeleton_of v
    pub agrees : (stack : ℕ) (outs : List (Numbered N)) → OutsAgree n line_of g (stack_in v stack) outs →
        OutsAgree n line_of g (stack_in w stack) outs
