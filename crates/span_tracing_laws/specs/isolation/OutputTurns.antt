-- What comes to one output in a run, as one list, and what the output makes of it. The list names nothing of another output.
use Rattle.std.specs.Prelude.{◌≡◌, ◌==◌, ℕ, Bool, true, false, if◌then◌else◌, List, [], ◌∷◌, ◌++◌, map, Option, Some, None}
use Rattle.tracing_core_moments.specs.declared.at.At.{At}
use Rattle.event_formatter_text.specs.declared.format_fields.FormatFields.{Ghosts}
use Rattle.event_formatter_text.specs.declared.makers.route.Route.{Route}
use Rattle.span_tracing_outputs.specs.OutputFolds.{Numbered}
use Rattle.span_tracing_outputs.specs.OutputMachines.{Heard, PlainOut, out_run, rested, with_fates}
use Rattle.span_tracing_outputs.specs.OutputNotices.{heards}
use Rattle.span_tracing_outputs.specs.OutputSettings.{config_set}
use Rattle.span_tracing_outputs.specs.sinks.Routed.{Routed, sent_to}
use Rattle.span_tracing_outputs.specs.sinks.Runs.{lines_at}
use Rattle.span_tracing_outputs.specs.sinks.SinkCalls.{sink_place}
use Rattle.span_tracing_outputs.specs.sinks.SinkTurns.{Asked, Came, SinkTurn, asked_if}
use Rattle.span_tracing_outputs.specs.OutputMachines.{PlainLine}
use Rattle.span_tracing_outputs.specs.declared.has_sinks.SinkPlace.{SinkPlace}
use Rattle.span_tracing_skeleton.specs.Looking.{output_in}
use Rattle.span_tracing_skeleton.specs.declared.call.Reply.{Reply}
use Rattle.span_tracing_skeleton.specs.declared.call.Reply.TheVariants.{Done, Refused}
use Rattle.span_tracing_skeleton.specs.declared.queue_call.QueueCall.{QueueCall}
use Rattle.span_tracing_skeleton.specs.declared.refusal.Refusal.TheVariants.{OutOfMemory}
use Rattle.span_tracing_skeleton.specs.declared.setting.OutputPlace.{OutputPlace}
use Rattle.span_tracing_skeleton.specs.declared.setting.Setting.{Setting}
use Rattle.span_tracing_laws.specs.runs.Runs.{Drove, Plain, Starved, StepWithMask, Waited, Went, plain_after}
use Rattle.span_tracing_laws.specs.runs.StepNotices.{Told, told_of, told_to}
use Rattle.span_tracing_laws.specs.runs.StepSettings.{OutputSetting, outs_with, setting_of}
use Rattle.span_tracing_laws.specs.starved.StarvedCounts.{list_at}

-- What comes to an output: a setting of it changes; or a step tells it something, at a place and moment, one notice after another; or the
-- queue of its sink with a number is called, and answers.
pub data OutputTurn : Type 0 where
  Changes : Setting → OutputTurn
  Hears : At → List Heard → OutputTurn
  Calls : ℕ → QueueCall → Reply → OutputTurn

-- a turn without what a queue answered
abbrev pub unreplied : OutputTurn → OutputTurn
unreplied (Calls sink call reply) = Calls sink call Done
unreplied t = t

-- a call on a queue found memory
abbrev pub FindsMemory : OutputTurn → Type 0
FindsMemory (Calls sink call reply) = reply ≡ Refused OutOfMemory → ⊥
FindsMemory t = Unit {0}

-- the numbers of outputs' filters
abbrev pub filter_numbers : {N : Type 0} → List (Numbered N) → List ℕ
filter_numbers outs = map (λ o. o.number) outs

-- a setting comes to the output that it is for
abbrev pub changes_if : Bool → Setting → List OutputTurn
changes_if true setting = Changes setting ∷ []
changes_if false setting = []

abbrev pub changes_by : ℕ → ℕ → Option OutputSetting → List OutputTurn
changes_by stack place None = []
changes_by stack place (Some c) = if c.at.stack == stack then changes_if (c.at.place == place) c.setting else []

-- a step that tells an output nothing doesn't come to it
abbrev pub hears_some : At → List Heard → List OutputTurn
hears_some at [] = []
hears_some at (h ∷ hs) = Hears at (h ∷ hs) ∷ []

abbrev pub hears_by : {N : Type 0} → Option (Told N) → List (Numbered N) → ℕ → List OutputTurn
hears_by None outs place = []
hears_by (Some told) outs place = hears_some told.at (heards (list_at (told.lists outs) place))

-- a call comes to the output whose sink it is for
abbrev pub calls_if : Bool → ℕ → QueueCall → Reply → List OutputTurn
calls_if true sink call reply = Calls sink call reply ∷ []
calls_if false sink call reply = []

abbrev pub calls_at : Option SinkPlace → ℕ → QueueCall → Reply → List OutputTurn
calls_at None place call reply = []
calls_at (Some at) place call reply = calls_if (at.output == place) at.sink call reply

abbrev pub calls_by : {S : Type 0} → List (Routed S) → ℕ → ℕ → Option OutputPlace → QueueCall → Reply → List OutputTurn
calls_by sinks stack place None call reply = []
calls_by sinks stack place (Some at) call reply = if at.stack == stack then calls_at (sink_place sinks 0 at.place) place call reply else []

module _ {N S : Type 0} (n : Ghosts N) (sinks : List (Routed S)) where
  -- what a turn brings to the output at a place of a stack, which has these sinks
  abbrev pub turn_brings : Plain N → StepWithMask → ℕ → ℕ → List OutputTurn
  turn_brings p (Went step a fates) stack place =
      changes_by stack place (setting_of p.skeleton step) ++
      hears_by (told_to N stack (told_of N p.skeleton step a)) (outs_with stack (setting_of p.skeleton step) (p.outs stack)) place
  turn_brings p (Starved step) stack place = []
  turn_brings p (Waited step) stack place = []
  turn_brings p (Drove ask answer) stack place =
      calls_by sinks stack place (output_in p.skeleton.sinks 0 ask.sink) ask.call answer

  -- and what a run does
  abbrev pub run_brings : Plain N → List StepWithMask → ℕ → ℕ → List OutputTurn
  run_brings p [] stack place = []
  run_brings p (t ∷ ts) stack place = turn_brings p t stack place ++ run_brings (plain_after n p t) ts stack place

-- a sink to which nothing comes is left as it is
abbrev pub came_some : List (At × PlainLine) → List SinkTurn → List SinkTurn
came_some [] later = later
came_some (line ∷ lines) later = Came (line ∷ lines) ∷ later

-- what comes to a sink, without the turns in which no line does
abbrev pub comings : List SinkTurn → List SinkTurn
comings [] = []
comings (Came lines ∷ ts) = came_some lines (comings ts)
comings (Asked call reply ∷ ts) = Asked call reply ∷ comings ts

module _ {N : Type 0} (n : Ghosts N) where
  -- an output machine that hears notices all of whose texts and lines find memory
  abbrev pub machine_heard : PlainOut N → List Heard → PlainOut N
  machine_heard o hs = out_run n o (with_fates hs [])

  -- what a turn makes of it; its lines are handed on
  abbrev pub machine_after : PlainOut N → OutputTurn → PlainOut N
  machine_after o (Changes setting) = record o { config = config_set setting o.config }
  machine_after o (Hears at hs) = rested (machine_heard o hs)
  machine_after o (Calls sink call reply) = o

  abbrev pub machine_run : PlainOut N → List OutputTurn → PlainOut N
  machine_run o [] = o
  machine_run o (t ∷ ts) = machine_run (machine_after o t) ts

  -- the lines that it offers then, each with where and when
  abbrev pub machine_lines : PlainOut N → List OutputTurn → List (At × PlainLine)
  machine_lines o [] = []
  machine_lines o (Changes setting ∷ ts) = machine_lines (machine_after o (Changes setting)) ts
  machine_lines o (Hears at hs ∷ ts) = lines_at at (machine_heard o hs).lines ++ machine_lines (machine_after o (Hears at hs)) ts
  machine_lines o (Calls sink call reply ∷ ts) = machine_lines o ts

  module _ (route : Route) (number : ℕ) where
    -- what comes to its sink with a number: those lines that the route sends there, and the calls on the sink's queue
    abbrev pub machine_sends : PlainOut N → List OutputTurn → List SinkTurn
    machine_sends o [] = []
    machine_sends o (Changes setting ∷ ts) = machine_sends (machine_after o (Changes setting)) ts
    machine_sends o (Hears at hs ∷ ts) =
        came_some (sent_to route number (lines_at at (machine_heard o hs).lines)) (machine_sends (machine_after o (Hears at hs)) ts)
    machine_sends o (Calls sink call reply ∷ ts) = asked_if (sink == number) call reply (machine_sends o ts)
