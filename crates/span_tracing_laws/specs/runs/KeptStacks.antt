-- Stacks that agree with machines, and what stays of them where they are only asked.
use Rattle.std.specs.Prelude.{◌≡◌, ℕ, List, [], map, length, Option, Some, None, false}
use Rattle.tracing_core_fields.specs.requests.PlainRequests.{PlainEvent}
use Rattle.span_registry_layers_layers.specs.declared.filter.Filter.{Ghosts as FilterGhosts}
use Rattle.span_registry_layers.specs.OutputSlots.{marked}
use Rattle.event_formatter_text.specs.declared.format_fields.FormatFields.{Ghosts}
use Rattle.event_formatter_text.specs.declared.settings.Settings.{Settings}
use Rattle.event_formatter.specs.formats.Contexts.{PlainContext}
use Rattle.span_tracing_outputs.specs.OutputFolds.{EachAgrees, Numbered}
use Rattle.span_tracing_outputs.specs.TraceStacks.{TraceStackValue}
use Rattle.span_tracing_steps.specs.States.{stack_in}
use Rattle.span_tracing_laws.specs.runs.StepFollows.{Traced, skeleton_of}

module _ {N E F S : Type 0} where
  -- the sinks are the same, and so are the spans, and the outputs with their filters but for what they were last told
  pub record OutputsStay (x y : TraceStackValue N E F S) : Type 0 where
    pub sinks : y.sinks ≡ x.sinks
    pub registry : y.stack.registry ≡ x.stack.registry
    pub rows : map (marked false) y.stack.rows ≡ map (marked false) x.stack.rows

  abbrev pub StackStays : Option (TraceStackValue N E F S) → Option (TraceStackValue N E F S) → Type 0
  StackStays None None = Unit {0}
  StackStays None (Some y) = ⊥
  StackStays (Some x) None = ⊥
  StackStays (Some x) (Some y) = OutputsStay x y

module _ {N E F S : Type 0} (n : Ghosts N) (line_of : E → Settings → PlainContext → PlainEvent → Option (List ℕ)) (g : FilterGhosts F) where
  -- each output keeps what its machine does, and has a sink
  abbrev pub OutsAgree : Option (TraceStackValue N E F S) → List (Numbered N) → Type 0
  OutsAgree None outs = outs ≡ []
  OutsAgree (Some x) outs = EachAgrees n line_of g x.stack.registry x.stack.rows outs × (length x.sinks ≡ length outs)

  -- a stack is the same but for what its filters and outputs were last told, and agrees with the machines that it agreed with
  pub record StackKeeps (o p : Option (TraceStackValue N E F S)) : Type 0 where
    pub stays : StackStays o p
    pub agrees : (outs : List (Numbered N)) → OutsAgree o outs → OutsAgree p outs

  -- a trace has the same skeleton, and its stacks are so
  pub record TraceKeeps (v w : Traced N E F S) : Type 0 where
    pub skeleton : skeleton_of w ≡ skeleton_of v
    pub stacks : (stack : ℕ) → StackKeeps (stack_in v stack) (stack_in w stack)
