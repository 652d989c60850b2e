-- Runs of steps: the plain machine of a skeleton and output machines, and what a trace's run makes of it.
use Rattle.std.specs.Prelude.{◌≡◌, ◌==◌, ℕ, Bool, true, false, List, [], ◌∷◌, map, Option, Some, None}
use Rattle.tracing_core_fields.specs.requests.PlainRequests.{PlainEvent}
use Rattle.tracing_core_moments.specs.declared.at.At.{At}
use Rattle.tracing_core_fields.specs.declared.requests.subscriber.Subscriber.{Ghosts as SubscriberGhosts}
use Rattle.span_registry_layers_layers.specs.declared.filter.Filter.{Ghosts as FilterGhosts}
use Rattle.span_registry_layers_layers.specs.declared.layer.Layer.{Ghosts as LayerGhosts}
use Rattle.event_formatter_text.specs.declared.format_fields.FormatFields.{Ghosts}
use Rattle.event_formatter_text.specs.declared.settings.Settings.{Settings}
use Rattle.event_formatter.specs.formats.Contexts.{PlainContext}
use Rattle.span_tracing_outputs.specs.OutputMachines.{PlainLine}
use Rattle.span_tracing_outputs.specs.OutputFolds.{Fates, Numbered, outs_told}
use Rattle.span_tracing_outputs.specs.TraceFollows.{at_rest, lines_offered}
use Rattle.span_tracing_outputs.specs.TraceStacks.{TraceStackValue}
use Rattle.span_tracing_outputs.specs.Turns.{Lines}
use Rattle.span_tracing_outputs.specs.sinks.OutputRuns.{joined}
use Rattle.span_tracing_outputs.specs.sinks.Runs.{lines_at}
use Rattle.span_tracing_outputs.specs.sinks.SinkTurns.{Called, Offered, StackMeetsAll, StackTurn}
use Rattle.span_tracing_skeleton.specs.Looking.{output_in}
use Rattle.span_tracing_skeleton.specs.Machine.{after, reply_of}
use Rattle.span_tracing_skeleton.specs.PlainData.{AnyStep, OfQueue, OfTrace, PlainStep}
use Rattle.span_tracing_skeleton.specs.Skeleton.{Skeleton, Answers}
use Rattle.span_tracing_skeleton.specs.declared.call.Reply.{Reply}
use Rattle.span_tracing_skeleton.specs.declared.call.Reply.TheVariants.{Refused}
use Rattle.span_tracing_skeleton.specs.declared.queue_call.QueueCall.{QueueCall}
use Rattle.span_tracing_skeleton.specs.declared.queue_call.SinkCall.{SinkCall}
use Rattle.span_tracing_skeleton.specs.declared.refusal.Refusal.TheVariants.{Busy, OutOfMemory}
use Rattle.span_tracing_skeleton.specs.declared.setting.OutputPlace.{OutputPlace}
use Rattle.span_tracing_steps.specs.AnySteps.{holds_in}
use Rattle.span_tracing_steps.specs.Runs as steps
pub use Rattle.span_tracing_steps.specs.Runs.{Road, Asking, Caching}
use Rattle.span_tracing_steps.specs.SinkCalls.{DriveGives}
use Rattle.span_tracing_steps.specs.States.{stack_in}
use Rattle.span_tracing_laws.specs.runs.DrivenSinks.{drives, holds}
use Rattle.span_tracing_laws.specs.runs.KeptStacks.{OutsAgree, TraceKeeps}
use Rattle.span_tracing_laws.specs.runs.StepFollows.{FindsNoMemory, FollowsStep, Traced, registry_of, skeleton_of}
use Rattle.span_tracing_laws.specs.runs.StepNotices.{Told, told_of, told_to}
use Rattle.span_tracing_laws.specs.runs.StepSettings.{outs_with, setting_of}
use Rattle.span_tracing_outputs.specs.OutputSettings.{stack_set}

-- the state of the plain machine: what decides replies, and of each stack, by its number, the output machines
pub record Plain (N : Type 0) : Type 0 where
  pub skeleton : Skeleton
  pub outs : ℕ → List (Numbered N)

-- a step as it went: with these answers of filters, and these fates of texts and lines; or it found no memory, and did nothing; or a line
-- was held, and it did nothing; or it was a call on a sink's queue, with what was answered
pub data StepWithMask : Type 0 where
  Went : PlainStep → Answers → Fates → StepWithMask
  Starved : PlainStep → StepWithMask
  Waited : PlainStep → StepWithMask
  Drove : SinkCall → Reply → StepWithMask

abbrev pub step_of : StepWithMask → AnyStep
step_of (Went step a fates) = OfTrace step
step_of (Starved step) = OfTrace step
step_of (Waited step) = OfTrace step
step_of (Drove ask answer) = OfQueue ask

abbrev pub steps_of : List StepWithMask → List AnyStep
steps_of turns = map step_of turns

-- no lines for any output
abbrev pub none_for : {N : Type 0} → List (Numbered N) → List (List (At × PlainLine))
none_for {N = N} outs = map (λ (o : Numbered N). []) outs

-- a call comes to the sinks of a stack where the sink's place is in it
abbrev pub called_if : Bool → ℕ → QueueCall → Reply → StackTurn → StackTurn
called_if true place call answer none = Called place call answer
called_if false place call answer none = none

abbrev pub called_at : Option OutputPlace → ℕ → QueueCall → Reply → StackTurn → StackTurn
called_at None stack call answer none = none
called_at (Some at) stack call answer none = called_if (at.stack == stack) at.place call answer none

module _ {N : Type 0} (n : Ghosts N) where
  abbrev pub outs_left : Option (Told N) → List (Numbered N) → Fates → List (Numbered N)
  outs_left None outs fates = outs
  outs_left (Some told) outs fates = map at_rest (outs_told n (told.lists outs) outs fates)

  -- for each output the lines that go to its sink
  abbrev pub lines_left : Option (Told N) → List (Numbered N) → Fates → List (List (At × PlainLine))
  lines_left None outs fates = none_for outs
  lines_left (Some told) outs fates = map (lines_at told.at) (lines_offered (outs_told n (told.lists outs) outs fates))

  abbrev pub plain_after : Plain N → StepWithMask → Plain N
  plain_after p (Went step a fates) = record {
    skeleton = after p.skeleton step a;
    outs = λ stack. outs_left (told_to N stack (told_of N p.skeleton step a))
        (outs_with stack (setting_of p.skeleton step) (p.outs stack)) fates;
  }
  plain_after p (Starved step) = p
  plain_after p (Waited step) = p
  plain_after p (Drove ask answer) = p

  abbrev pub plain_reply : Plain N → StepWithMask → Reply
  plain_reply p (Went step a fates) = reply_of p.skeleton step a
  plain_reply p (Starved step) = Refused OutOfMemory
  plain_reply p (Waited step) = Refused Busy
  plain_reply p (Drove ask answer) = answer

  abbrev pub turn_lines : Plain N → StepWithMask → ℕ → List (List (At × PlainLine))
  turn_lines p (Went step a fates) stack = lines_left (told_to N stack (told_of N p.skeleton step a))
      (outs_with stack (setting_of p.skeleton step) (p.outs stack)) fates
  turn_lines p (Starved step) stack = none_for (p.outs stack)
  turn_lines p (Waited step) stack = none_for (p.outs stack)
  turn_lines p (Drove ask answer) stack = none_for (p.outs stack)

  -- what comes to the sinks of a stack: the lines of its outputs, or a call on the queue of one of them
  abbrev pub stack_turn : Plain N → StepWithMask → ℕ → StackTurn
  stack_turn p (Went step a fates) stack = Offered (turn_lines p (Went step a fates) stack)
  stack_turn p (Starved step) stack = Offered (none_for (p.outs stack))
  stack_turn p (Waited step) stack = Offered (none_for (p.outs stack))
  stack_turn p (Drove ask answer) stack =
      called_at (output_in p.skeleton.sinks 0 ask.sink) stack ask.call answer (Offered (none_for (p.outs stack)))

  -- turns in order
  abbrev pub plain_run : Plain N → List StepWithMask → Plain N
  plain_run p [] = p
  plain_run p (t ∷ ts) = plain_run (plain_after p t) ts

  abbrev pub replies_of : Plain N → List StepWithMask → List Reply
  replies_of p [] = []
  replies_of p (t ∷ ts) = plain_reply p t ∷ replies_of (plain_after p t) ts

  -- for each output of a stack all lines that go to its sink, in order, each with where and when it is handed over
  abbrev pub lines_of : Plain N → List StepWithMask → ℕ → List (List (At × PlainLine))
  lines_of p [] stack = none_for (p.outs stack)
  lines_of p (t ∷ ts) stack = joined (turn_lines p t stack) (lines_of (plain_after p t) ts stack)

  -- what comes to the sinks of a stack, step by step
  abbrev pub turns_of : Plain N → List StepWithMask → ℕ → List StackTurn
  turns_of p [] stack = []
  turns_of p (t ∷ ts) stack = stack_turn p t stack ∷ turns_of (plain_after p t) ts stack

module _ {N E F S : Type 0} (n : Ghosts N) (line_of : E → Settings → PlainContext → PlainEvent → Option (List ℕ)) (g : FilterGhosts F) where
  -- a trace has this skeleton, and the outputs of each stack agree with these machines, also of one that was released and isn't taken
  abbrev pub AgreesPlain : Traced N E F S → Plain N → Type 0
  AgreesPlain v p = (skeleton_of v ≡ p.skeleton) × ((stack : ℕ) → OutsAgree n line_of g (stack_in v stack) (p.outs stack))

  module _ (takes : S → At → PlainLine → S → Type 0) (calls : ℕ → QueueCall → List S → Reply → List S → Type 0) (held : List S → Bool) where
    -- the sinks of a stack met what came to them
    abbrev pub SinksMeet : Option (TraceStackValue N E F S) → Option (TraceStackValue N E F S) → List StackTurn → Type 0
    SinksMeet None None ts = Unit {0}
    SinksMeet None (Some y) ts = ⊥
    SinksMeet (Some x) None ts = ⊥
    SinksMeet (Some x) (Some y) ts = StackMeetsAll takes calls ts x.sinks y.sinks

    module _ (h : LayerGhosts (Lines N E)) where
      abbrev pub TurnGoes : Traced N E F S → StepWithMask → Reply → Traced N E F S → Type 0
      TurnGoes v (Went step a fates) reply w = (holds_in (holds held) v ≡ false) × ((f : FollowsStep n line_of g takes h v step reply w) ×
          (f.answers ≡ a) × (f.fates ≡ fates))
      TurnGoes v (Starved step) reply w = (holds_in (holds held) v ≡ false) × FindsNoMemory n line_of g takes h v step reply w
      TurnGoes v (Waited step) reply w = (holds_in (holds held) v ≡ true) × (reply ≡ Refused Busy) × (w ≡ v)
      TurnGoes v (Drove ask answer) reply w = (reply ≡ answer) × DriveGives (drives calls) v ask.sink ask.call reply w

      -- so on each road: where each stack is asked anew before, the trace keeps all else
      abbrev pub TurnBy : Road → Traced N E F S → StepWithMask → Reply → Traced N E F S → Type 0
      TurnBy Caching v t reply w = TurnGoes v t reply w
      TurnBy Asking v t reply w = (start : Traced N E F S) × TraceKeeps n line_of g v start × TurnGoes start t reply w

      abbrev pub TurnsGo : Road → Traced N E F S → List StepWithMask → List Reply → Traced N E F S → Type 0
      TurnsGo road v [] [] w = w ≡ v
      TurnsGo road v [] (reply ∷ replies) w = ⊥
      TurnsGo road v (t ∷ ts) [] w = ⊥
      TurnsGo road v (t ∷ ts) (reply ∷ replies) w = (mid : Traced N E F S) × TurnBy road v t reply mid × TurnsGo road mid ts replies w

      -- a run: with turns of these steps, each of which goes there and then, from each plain state that the trace agrees with the replies
      -- are the plain ones, the
      -- trace agrees with the plain state afterwards, and the sinks of each stack met the lines of its outputs' machines, and the calls on
      -- their queues, step by step
      pub record RunFollows (road : Road) (v : Traced N E F S) (steps : List AnyStep) (replies : List Reply) (w : Traced N E F S) :
          Type 0 where
        pub turns : List StepWithMask
        pub each : steps_of turns ≡ steps
        pub goes : TurnsGo road v turns replies w
        pub agreed : (p : Plain N) → AgreesPlain v p → (replies ≡ replies_of n p turns) × AgreesPlain w (plain_run n p turns) ×
            ((stack : ℕ) → SinksMeet (stack_in v stack) (stack_in w stack) (turns_of n p turns stack))

module _ {N E F S : Type 0} (sg : SubscriberGhosts (TraceStackValue N E F S))
    (calls : ℕ → QueueCall → List S → Reply → List S → Type 0) (held : List S → Bool) where
  -- a step, and steps in order, as a trace over stacks of outputs with sinks takes them on a road
  abbrev pub StepBy : Road → Traced N E F S → AnyStep → Reply → Traced N E F S → Type 0
  StepBy road v step reply w = steps.StepBy sg registry_of stack_set (drives calls) (holds held) road v step reply w

  abbrev pub RunGives : Road → Traced N E F S → List AnyStep → List Reply → Traced N E F S → Type 0
  RunGives road v ss replies w = steps.RunGives sg registry_of stack_set (drives calls) (holds held) road v ss replies w
