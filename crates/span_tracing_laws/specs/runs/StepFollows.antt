-- What a step makes of a trace over stacks of outputs with sinks.
use Rattle.std.specs.Prelude.{◌≡◌, ◌⊎◌, ℕ, Bool, true, false, length, List, Option, Some, None, IsSome}
use Rattle.tracing_core_fields.specs.PlainMetadata.{PlainMetadata}
use Rattle.tracing_core_moments.specs.declared.at.At.{At}
use Rattle.span_registry_layers_store.specs.Registries.{RegistryValue}
use Rattle.span_registry_layers_store.specs.Verdicts.{all_pass}
use Rattle.span_registry_layers_layers.specs.declared.filter.Filter.{Ghosts as FilterGhosts}
use Rattle.span_registry_layers_layers.specs.declared.layer.Layer.{Ghosts as LayerGhosts}
use Rattle.span_registry_layers.specs.Calls.{AllRefuse}
use Rattle.span_registry_layers.specs.Stacks.{PassesAsked}
use Rattle.event_formatter_text.specs.declared.format_fields.FormatFields.{Ghosts}
use Rattle.event_formatter_text.specs.declared.settings.Settings.{Settings}
use Rattle.event_formatter.specs.formats.Contexts.{PlainContext}
use Rattle.tracing_core_fields.specs.requests.PlainRequests.{PlainEvent}
use Rattle.span_tracing_outputs.specs.OutputMachines.{PlainLine}
use Rattle.span_tracing_outputs.specs.OutputFolds.{EachAgrees, Fates, Numbered}
use Rattle.span_tracing_outputs.specs.TraceFollows.{EachAnswers, EachAsked, IsReady, OutputsGo, Rests, numbers_in, some_passes}
use Rattle.span_tracing_outputs.specs.TraceFollows.{verdicts_from}
use Rattle.span_tracing_outputs.specs.TraceStacks.{TraceStackValue}
use Rattle.span_tracing_outputs.specs.Turns.{Lines}
use Rattle.span_tracing_skeleton.specs.Looking.{known, named, reach}
use Rattle.span_tracing_skeleton.specs.Machine.{after, reply_of}
use Rattle.span_tracing_skeleton.specs.Order.{refusal_of}
use Rattle.span_tracing_skeleton.specs.PlainData.{PlainStep, GlobalStep, EventStep, EnabledStep, SpanStep, RecordStep, FollowsFromStep}
use Rattle.span_tracing_skeleton.specs.PlainData.{EnterStep, ExitStep, CloneStep, CloseStep, DefaultStep, ResetStep, CloneHandleStep}
use Rattle.span_tracing_skeleton.specs.PlainData.{ReleaseStep, SetStep}
use Rattle.span_tracing_skeleton.specs.Skeleton.{Skeleton, Answers, Unasked, Wanted, Dropped, Passed, Heard}
use Rattle.span_tracing_skeleton.specs.declared.call.Reply.{Reply}
use Rattle.span_tracing_skeleton.specs.declared.call.Reply.TheVariants.{Refused}
use Rattle.span_tracing_skeleton.specs.declared.refusal.Refusal.TheVariants.{OutOfMemory}
use Rattle.span_tracing_steps.specs.States as states
use Rattle.span_tracing_steps.specs.States.{StateValue, held_in, stack_in}
use Rattle.span_tracing_steps.specs.contracts.callsite.TraceCallsiteCallsite.TheImpl.{ghosts}
use Rattle.tracing_core.specs.HubInvariant.{IsSound as IsSoundHub}
use Rattle.span_tracing_steps.specs.StackRequests.{place_at, request_of}
use Rattle.span_tracing_laws.specs.runs.StepSettings.{setting_of, stack_with}
use Rattle.span_tracing_laws.specs.runs.StepNotices.{Told, told_of, told_to}

-- a trace over stacks of outputs with sinks
abbrev pub Traced : Type 0 → Type 0 → Type 0 → Type 0 → Type 0
Traced N E F S = StateValue (TraceStackValue N E F S)

abbrev pub registry_of : {N E F S : Type 0} → TraceStackValue N E F S → RegistryValue
registry_of x = x.stack.registry

abbrev pub skeleton_of : {N E F S : Type 0} → Traced N E F S → Skeleton
skeleton_of v = states.skeleton_of registry_of v

-- where a stack is reached, and the callsite is known, its filters are asked; else nobody is
abbrev pub AskedWhere : Option ℕ → Option PlainMetadata → (ℕ → PlainMetadata → Answers → Type 0) → Answers → Type 0
AskedWhere None callsite asked a = a ≡ Unasked
AskedWhere (Some stack) None asked a = a ≡ Unasked
AskedWhere (Some stack) (Some m) asked a = asked stack m a

module _ {N E F S : Type 0} (g : FilterGhosts F) (h : LayerGhosts (Lines N E)) where
  -- the hub is sound, each stack that was given has a place to wait in, and of each stack that somebody holds what is kept of its filters'
  -- answers is right, and no output keeps a line
  pub record TraceIsReady (v : Traced N E F S) : Type 0 where
    pub sound : IsSoundHub ghosts v.hub
    pub given : length v.retired ≡ v.hub.next
    pub stacks : (number : ℕ) (x : TraceStackValue N E F S) → held_in v number ≡ Some x → IsReady g x

  -- what the filters of the reached stack may answer of a callsite, there and then
  abbrev pub AnswersEvent : Option (TraceStackValue N E F S) → PlainEvent → At → Answers → Type 0
  AnswersEvent None e at a = ⊥
  AnswersEvent (Some x) e at Unasked = ⊥
  AnswersEvent (Some x) e at (Wanted b) = ⊥
  AnswersEvent (Some x) e at Dropped = ⊥
  AnswersEvent (Some x) e at (Passed passed) = ⊥
  AnswersEvent (Some x) e at (Heard passed told) = EachAsked g e at x.stack.registry x.stack.rows passed told

  abbrev pub AnswersQuestion : Option (TraceStackValue N E F S) → PlainMetadata → At → Answers → Type 0
  AnswersQuestion None m at a = ⊥
  AnswersQuestion (Some x) m at Unasked = ⊥
  AnswersQuestion (Some x) m at (Wanted b) = PassesAsked g x.stack m at b
  AnswersQuestion (Some x) m at Dropped = ⊥
  AnswersQuestion (Some x) m at (Passed passed) = ⊥
  AnswersQuestion (Some x) m at (Heard passed told) = ⊥

  -- of a new span: each filter refuses it, or some passes it, and each answer stands under the filter's number
  abbrev pub AnswersSpan : Option (TraceStackValue N E F S) → PlainMetadata → At → Answers → Type 0
  AnswersSpan None m at a = ⊥
  AnswersSpan (Some x) m at Unasked = ⊥
  AnswersSpan (Some x) m at (Wanted b) = ⊥
  AnswersSpan (Some x) m at Dropped = AllRefuse g h m at x.stack
  AnswersSpan (Some x) m at (Passed passed) =
      (answers : List Bool) × EachAnswers g.answers m at x.stack.registry x.stack.rows answers × (some_passes answers ≡ true) ×
      (passed ≡ verdicts_from all_pass (numbers_in x.stack.rows) answers)
  AnswersSpan (Some x) m at (Heard passed told) = ⊥

  abbrev pub IsAnswered : Traced N E F S → PlainStep → Answers → Type 0
  IsAnswered v (GlobalStep handle) a = a ≡ Unasked
  IsAnswered v (EventStep e) a = AskedWhere (reach (skeleton_of v) e.lane) (known (skeleton_of v) e.callsite false)
      (λ stack m b. AnswersEvent (held_in v stack) (request_of m e) (place_at e.lane e.moment) b) a
  IsAnswered v (EnabledStep call) a = AskedWhere (reach (skeleton_of v) call.lane) (named (skeleton_of v).callsites call.callsite.0)
      (λ stack m b. AnswersQuestion (held_in v stack) m (place_at call.lane call.moment) b) a
  IsAnswered v (SpanStep n) a = AskedWhere (reach (skeleton_of v) n.lane) (known (skeleton_of v) n.callsite true)
      (λ stack m b. AnswersSpan (held_in v stack) m (place_at n.lane n.moment) b) a
  IsAnswered v (RecordStep r) a = a ≡ Unasked
  IsAnswered v (FollowsFromStep call) a = a ≡ Unasked
  IsAnswered v (EnterStep call) a = a ≡ Unasked
  IsAnswered v (ExitStep call) a = a ≡ Unasked
  IsAnswered v (CloneStep call) a = a ≡ Unasked
  IsAnswered v (CloseStep call) a = a ≡ Unasked
  IsAnswered v (DefaultStep call) a = a ≡ Unasked
  IsAnswered v (ResetStep call) a = a ≡ Unasked
  IsAnswered v (CloneHandleStep handle) a = a ≡ Unasked
  IsAnswered v (ReleaseStep handle) a = a ≡ Unasked
  IsAnswered v (SetStep call) a = a ≡ Unasked

module _ {N E F S : Type 0} (n : Ghosts N) (line_of : E → Settings → PlainContext → PlainEvent → Option (List ℕ)) (g : FilterGhosts F)
    (takes : S → At → PlainLine → S → Type 0) where
  -- the outputs go on as any machines do that they agree with, which are told this with these fates, and each sink took the lines of its
  -- machine; or they rest
  abbrev pub StackFollows : Option (Told N) → Fates → TraceStackValue N E F S → TraceStackValue N E F S → Type 0
  StackFollows None fates x y = Rests n line_of g takes x y
  StackFollows (Some told) fates x y = (outs : List (Numbered N)) → EachAgrees n line_of g x.stack.registry x.stack.rows outs →
      OutputsGo n line_of g takes told.at (told.lists outs) fates outs x y

  abbrev pub OutputsFollow : Option (Told N) → Fates → Option (TraceStackValue N E F S) → Option (TraceStackValue N E F S) → Type 0
  OutputsFollow told fates None None = Unit {0}
  OutputsFollow told fates None (Some y) = ⊥
  OutputsFollow told fates (Some x) None = ⊥
  OutputsFollow told fates (Some x) (Some y) = StackFollows told fates x y

  module _ (h : LayerGhosts (Lines N E)) where
    -- with these answers, which the filters may give there and then, and these fates of texts and lines: the reply and the next skeleton
    -- are the plain ones, and the outputs of each stack follow what they are told, also those of one that was released; first the output
    -- of a setting that the step brings has that
    pub record FollowsStep (v : Traced N E F S) (step : PlainStep) (reply : Reply) (w : Traced N E F S) : Type 0 where
      pub answers : Answers
      pub fates : Fates
      pub asked : refusal_of (skeleton_of v) step ≡ None → IsAnswered g h v step answers
      pub replied : reply ≡ reply_of (skeleton_of v) step answers
      pub skeleton : skeleton_of w ≡ after (skeleton_of v) step answers
      pub outputs : (number : ℕ) →
          OutputsFollow (told_to N number (told_of N (skeleton_of v) step answers)) fates
          (stack_with number (setting_of (skeleton_of v) step) (stack_in v number)) (stack_in w number)

    -- what takes room of its own: a new span that some filter of the reached stack passes, an entry of a span, a guard, and a handle
    abbrev pub TakesRoom : Traced N E F S → PlainStep → Type 0
    TakesRoom v (GlobalStep handle) = ⊥
    TakesRoom v (EventStep e) = ⊥
    TakesRoom v (EnabledStep call) = ⊥
    TakesRoom v (SpanStep q) = (passed : List Bool) × IsAnswered g h v (SpanStep q) (Passed passed)
    TakesRoom v (RecordStep r) = ⊥
    TakesRoom v (FollowsFromStep call) = ⊥
    TakesRoom v (EnterStep call) = IsSome call.span
    TakesRoom v (ExitStep call) = ⊥
    TakesRoom v (CloneStep call) = ⊥
    TakesRoom v (CloseStep call) = ⊥
    TakesRoom v (DefaultStep call) = Unit {0}
    TakesRoom v (ResetStep call) = ⊥
    TakesRoom v (CloneHandleStep handle) = Unit {0}
    TakesRoom v (ReleaseStep handle) = ⊥
    TakesRoom v (SetStep call) = ⊥

    -- a step that takes room finds no memory where nothing else stands in its way, and then changes nothing
    abbrev pub FindsNoMemory : Traced N E F S → PlainStep → Reply → Traced N E F S → Type 0
    FindsNoMemory v step reply w = (reply ≡ Refused OutOfMemory) × (refusal_of (skeleton_of v) step ≡ None) × TakesRoom v step × (w ≡ v)

    abbrev pub Follows : Traced N E F S → PlainStep → Reply → Traced N E F S → Type 0
    Follows v step reply w = FollowsStep v step reply w ⊎ FindsNoMemory v step reply w
