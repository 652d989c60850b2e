-- Which bytes stand in the files of a queued sink, and which lines wait before them.
use Rattle.std.specs.Prelude.{◌≡◌, ◌<◌, ◌^◌, ◌-◌, ℕ, Bool, true, false, List, [], ◌∷◌, ◌++◌, Option, Some}
use Rattle.tracing_core_moments.specs.declared.moment.Moment.{Moment}
use Rattle.tracing_core_moments.specs.Moments.{is_moment}
use Rattle.tracing_appender_rolling.specs.folders.Contents.{Contents}
use Rattle.tracing_appender_rolling.specs.Sinks.{Handed}
use Rattle.tracing_appender_rolling.specs.PrunedSinks.{AgreesSink, KeepsEveryFile, PrunedSink}
use Rattle.tracing_appender_queue.specs.Queue.{after_mark}
use Rattle.tracing_appender_queue.specs.worker.Batches.{lines_in, queue_in}
use Rattle.tracing_appender_queue.specs.queued.HeldLines.{moved_first, without_first}
use Rattle.tracing_appender_queue.specs.queued.LineFates.{WaitingLines, fate_of, settled_as}
use Rattle.tracing_appender_queue.specs.queued.QueuedWork.{handed_at, left_at}
use Rattle.tracing_appender_queue.specs.declared.queued.queued_sink.QueuedSink.{QueuedSink}
use Rattle.span_tracing_skeleton.specs.declared.call.Reply.{Reply}
use Rattle.span_tracing_skeleton.specs.declared.call.Reply.TheVariants.{Done, Refused}
use Rattle.span_tracing_skeleton.specs.declared.queue_call.QueueCall.{QueueCall}
use Rattle.span_tracing_skeleton.specs.declared.queue_call.QueueCall.TheVariants.{Admit, Shutdown, Work}
use Rattle.span_tracing_skeleton.specs.declared.refusal.Refusal.{Refusal}
use Rattle.span_tracing_skeleton.specs.declared.refusal.Refusal.TheVariants.{Closed}
use Rattle.span_tracing_outputs.specs.sinks.AnySinks.{bytes_in}
use Rattle.span_tracing_outputs.specs.sinks.Fates.{with_all}
use Rattle.span_tracing_outputs.specs.sinks.LinesInFiles.{LinesStand}
use Rattle.span_tracing_outputs.specs.sinks.SinkTurns.{Asked, Came, QueueMeets, QueueMeetsAll, SinkTurn}

-- lines came, each of which finds memory
abbrev pub settled_by : List (List ℕ) → WaitingLines → WaitingLines
settled_by [] w = w
settled_by (line ∷ lines) w = settled_by lines (settled_as (fate_of w) line w)

-- a worker's step at a moment takes lines from the queue; out of range it is refused
abbrev pub worked_if : Bool → ℕ → WaitingLines → WaitingLines
worked_if true k w = record w { queue = queue_in k w.queue }
worked_if false k w = w

-- the first held line is taken in, or given up where the queue is closed
abbrev pub refused_admit : Refusal → WaitingLines → WaitingLines
refused_admit Closed w = without_first w w.held
refused_admit refusal w = w

abbrev pub after_admit : Reply → WaitingLines → WaitingLines
after_admit Done w = moved_first w w.held
after_admit (Refused refusal) w = refused_admit refusal w
after_admit reply w = w

abbrev pub after_shutdown : Reply → WaitingLines → WaitingLines
after_shutdown Done w = record w { queue = after_mark w.queue }
after_shutdown reply w = w

-- what waits, is held and was counted after a call that was answered so
abbrev pub after_call : QueueCall → Reply → WaitingLines → WaitingLines
after_call (Work k m) reply w = worked_if (is_moment m) k w
after_call Admit reply w = after_admit reply w
after_call Shutdown reply w = after_shutdown reply w

abbrev pub waits_after : SinkTurn → WaitingLines → WaitingLines
waits_after (Came lines) w = settled_by (bytes_in lines) w
waits_after (Asked call reply) w = after_call call reply w

abbrev pub waits_all : List SinkTurn → WaitingLines → WaitingLines
waits_all [] w = w
waits_all (t ∷ ts) w = waits_all ts (waits_after t w)

-- the lines that a worker's step hands over, each at the step's moment
abbrev pub handed_if : Bool → ℕ → Moment → WaitingLines → List Handed
handed_if true k m w = handed_at m (lines_in k w.queue)
handed_if false k m w = []

abbrev pub handed_by : SinkTurn → WaitingLines → List Handed
handed_by (Came lines) w = []
handed_by (Asked (Work k m) reply) w = handed_if (is_moment m) k m w
handed_by (Asked Admit reply) w = []
handed_by (Asked Shutdown reply) w = []

abbrev pub handed_all : List SinkTurn → WaitingLines → List Handed
handed_all [] w = []
handed_all (t ∷ ts) w = handed_by t w ++ handed_all ts (waits_after t w)

-- no line found no memory: the count of those stayed, and is not the greatest one
pub record NoneMissed {D : Type 0} (old new : QueuedSink D) : Type 0 where
  pub stayed : new.waiting.missed ≡ old.waiting.missed
  pub not_full : old.waiting.missed < 2 ^ 64 - 1

module _ {D : Type 0} (contents : D → Option Contents) (failed : D → ℕ) where
  -- What a sink is after a worker's step in range: before the first line retention removed its names, and then the lines were handed over.
  abbrev pub StepLeads : Bool → ℕ → Moment → PrunedSink → QueuedSink D → PrunedSink → Type 0
  StepLeads true k m p old last =
      (c : Contents) × (contents old.appender.folder ≡ Some c) × (last ≡ left_at p (lines_in k old.waiting.queue) m c)
  StepLeads false k m p old last = last ≡ p

  -- after any turn
  abbrev pub TurnLeads : SinkTurn → PrunedSink → QueuedSink D → PrunedSink → Type 0
  TurnLeads (Came lines) p old last = last ≡ p
  TurnLeads (Asked (Work k m) reply) p old last = StepLeads (is_moment m) k m p old last
  TurnLeads (Asked Admit reply) p old last = last ≡ p
  TurnLeads (Asked Shutdown reply) p old last = last ≡ p

  -- turn by turn, through the sinks that the turns left
  abbrev pub TurnsLead : List SinkTurn → PrunedSink → QueuedSink D → QueuedSink D → PrunedSink → Type 0
  TurnsLead [] p old new last = (new ≡ old) × (last ≡ p)
  TurnsLead (t ∷ ts) p old new last = (mid : QueuedSink D) × (next : PrunedSink) × QueueMeets contents failed t old mid ×
      TurnLeads t p old next × TurnsLead ts next mid new last

  -- This waits, and just these lines were handed to the files, in order, behind those that were handed over before. The sink is one to which
  -- that leads. Where the builder keeps all files, nothing else of it changed.
  pub record Leaves (waits : WaitingLines) (lines : List Handed) (leads : PrunedSink → Type 0) (old new : QueuedSink D) (p : PrunedSink) :
      Type 0 where
    pub waiting : new.waiting ≡ waits
    pub last : PrunedSink
    pub led : leads last
    pub agrees : AgreesSink contents new.appender last
    pub names : last.sink.names ≡ p.sink.names
    pub opened : last.sink.opened ≡ p.sink.opened
    pub handed : last.sink.handed ≡ p.sink.handed ++ lines
    pub whole : KeepsEveryFile p.sink.names → last ≡ record p { sink = with_all p.sink lines }
    pub faults : new.appender.faults ≡ old.appender.faults

  -- What waits is what the turns leave of what waited. The lines that the steps of workers took were handed to the files, each at its step's
  -- moment, and the files hold just these behind what their openings found, as far as retention left the files.
  pub record QueueStands (ts : List SinkTurn) (old new : QueuedSink D) (p : PrunedSink) : Type 0 where
    pub leaves : Leaves (waits_all ts old.waiting) (handed_all ts old.waiting) (λ last. TurnsLead ts p old new last) old new p
    pub stand : (c : Contents) → contents new.appender.folder ≡ Some c → LinesStand leaves.last c

  abbrev pub QueuesStand : Type 0
  QueuesStand = (ts : List SinkTurn) (old new : QueuedSink D) → QueueMeetsAll contents failed ts old new → NoneMissed old new →
      (p : PrunedSink) → AgreesSink contents old.appender p → QueueStands ts old new p
