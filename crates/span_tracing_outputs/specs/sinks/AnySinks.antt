-- A sink, direct or queued, and calls on its queue.
use Rattle.std.specs.Prelude.{◌≡◌, ◌≤◌, ◌<◌, ℕ, Bool, true, false, List, length, map, Option, Some, None, Result, Ok, Err}
use Rattle.tracing_core_moments.specs.declared.at.At.{At}
use Rattle.tracing_core_moments.specs.declared.moment.Moment.{Moment}
use Rattle.tracing_core_moments.specs.Moments.{is_moment}
use Rattle.tracing_appender_rolling.specs.Builders.{builder_names}
use Rattle.tracing_appender_rolling.specs.folders.Contents.{Contents}
use Rattle.tracing_appender_rolling.specs.Looks.{Held}
use Rattle.tracing_appender_rolling.specs.declared.faults.Faults.{Faults}
use Rattle.tracing_appender_rolling.specs.Appenders.{Holds}
use Rattle.tracing_appender_rolling.specs.PrunedSinks.{PrunedSink, AgreesSink}
use Rattle.tracing_appender_queue.specs.Queue.{after_mark}
use Rattle.tracing_appender_queue.specs.declared.state.MarkError.{MarkError}
use Rattle.tracing_appender_queue.specs.declared.state.MarkError.TheVariants as mark
use Rattle.tracing_appender_queue.specs.declared.worker.step.Batched.{Batched}
use Rattle.tracing_appender_queue.specs.worker.Batches.{lines_in}
use Rattle.tracing_appender_queue.specs.worker.Steps.{LinesAnywhere}
use Rattle.tracing_appender_queue.specs.declared.queued.fate.Fate.{Fate}
use Rattle.tracing_appender_queue.specs.declared.queued.fate.AdmitError.{AdmitError}
use Rattle.tracing_appender_queue.specs.declared.queued.fate.AdmitError.TheVariants as admit
use Rattle.tracing_appender_queue.specs.declared.queued.queued_sink.QueuedSink.{QueuedSink}
use Rattle.tracing_appender_queue.specs.queued.LineFates.{SettlesAll, SettlesLine}
use Rattle.tracing_appender_queue.specs.queued.HeldLines.{Admits, is_some_line, worked}
use Rattle.tracing_appender_queue.specs.queued.QueuedWork.{LinesLeft, WorksFrom, with_lost}
use Rattle.span_tracing_skeleton.specs.declared.call.Reply.{Reply}
use Rattle.span_tracing_skeleton.specs.declared.call.Reply.TheVariants.{Done, Refused, Worked}
use Rattle.span_tracing_skeleton.specs.declared.queue_call.QueueCall.{QueueCall}
use Rattle.span_tracing_skeleton.specs.declared.queue_call.QueueCall.TheVariants.{Work, Admit, Shutdown}
use Rattle.span_tracing_skeleton.specs.declared.refusal.Refusal.TheVariants.{BadMoment, Closed, MarkSent, NoRoom, NotQueued, NothingHeld}
use Rattle.span_tracing_skeleton.specs.declared.refusal.Refusal.TheVariants.{OutOfMemory}
use Rattle.span_tracing_outputs.specs.OutputMachines.{PlainLine}
use Rattle.span_tracing_outputs.specs.sinks.Runs.{TakesRun}
use Rattle.span_tracing_outputs.specs.sinks.Takes.{TakesLine}
use Rattle.span_tracing_outputs.specs.declared.sinks.sink.RollingSink.{RollingSink}
use Rattle.tracing_appender_rolling.specs.declared.appender.RollingFileAppender.{RollingFileAppender}
use Rattle.span_tracing_outputs.specs.declared.sinks.any_sink.AnySink.{AnySink}
use Rattle.span_tracing_outputs.specs.declared.sinks.any_sink.AnySink.TheVariants.{Direct, Queued, Live}
use Rattle.span_tracing_outputs.specs.declared.sinks.live.LiveSink.{LiveSink}
use Rattle.span_tracing_outputs.specs.sinks.LiveSinks.{TakesLive, TakesLives}

-- a line came to the queue, and nothing was written
pub record TakesQueued {D : Type 0} (old : QueuedSink D) (line : List ℕ) (new : QueuedSink D) : Type 0 where
  pub fate : Fate
  pub settled : SettlesLine old.waiting line fate new.waiting
  pub files : new.appender ≡ old.appender

-- the mark was put, or refused
abbrev pub Shuts : {D : Type 0} → QueuedSink D → Result (Unit {0}) MarkError → QueuedSink D → Type 0
Shuts old (Ok done) new =
    (new.waiting ≡ record old.waiting { queue = after_mark old.waiting.queue }) × (old.waiting.queue.sent ≡ false) ×
    (length old.waiting.queue.queued < old.waiting.queue.limit)
Shuts old (Err mark.MarkSent) new = (new.waiting ≡ old.waiting) × (old.waiting.queue.sent ≡ true)
Shuts old (Err mark.NoRoom) new = (new.waiting ≡ old.waiting) × (old.waiting.queue.sent ≡ false) ×
    (old.waiting.queue.limit ≤ length old.waiting.queue.queued)

abbrev pub admit_reply : Result (Unit {0}) AdmitError → Reply
admit_reply (Ok done) = Done
admit_reply (Err admit.NothingHeld) = Refused NothingHeld
admit_reply (Err admit.Closed) = Refused Closed
admit_reply (Err admit.NoRoom) = Refused NoRoom
admit_reply (Err admit.OutOfMemory) = Refused OutOfMemory

abbrev pub shutdown_reply : Result (Unit {0}) MarkError → Reply
shutdown_reply (Ok done) = Done
shutdown_reply (Err mark.MarkSent) = Refused MarkSent
shutdown_reply (Err mark.NoRoom) = Refused NoRoom

module _ {D Q : Type 0} (contents : D → Option Contents) (failed : D → ℕ) (settles : Q → List ℕ → Fate → Q → Type 0) where
  -- a line is written as it comes, or comes to the queue
  abbrev pub TakesAny : AnySink D Q → At → PlainLine → AnySink D Q → Type 0
  TakesAny (Direct old) at line (Direct new) = TakesLine contents failed old at line new
  TakesAny (Direct old) at line (Queued new) = ⊥
  TakesAny (Direct old) at line (Live new) = ⊥
  TakesAny (Queued old) at line (Direct new) = ⊥
  TakesAny (Queued old) at line (Queued new) = TakesQueued old line.bytes new
  TakesAny (Queued old) at line (Live new) = ⊥
  TakesAny (Live old) at line (Direct new) = ⊥
  TakesAny (Live old) at line (Queued new) = ⊥
  TakesAny (Live old) at line (Live new) = TakesLive settles old line.bytes new

module _ {D : Type 0} (contents : D → Option Contents) (failed : D → ℕ) where
  -- A step of a worker took so many lines. These are the first of the queue; the files were handed them at the moment, in order.
  pub record WorksQueued (lines : ℕ) (m : Moment) (old : QueuedSink D) (batched : Batched) (new : QueuedSink D) : Type 0 where
    pub waiting : new.waiting ≡ worked lines batched.missed old.waiting
    pub taken : batched.taken ≡ length (lines_in lines old.waiting.queue)
    pub names : builder_names new.appender.builder ≡ builder_names old.appender.builder
    -- over a folder of known contents, whatever it refuses
    pub files : (h : Held) → Holds contents old.appender h → WorksFrom contents lines m h batched old new
    -- where each line found memory, and the folder's contents are known: which bytes stand in which file
    pub left : batched.missed ≡ 0 → (c : Contents) (p : PrunedSink) → contents old.appender.folder ≡ Some c →
        AgreesSink contents old.appender p →
        LinesLeft contents (lines_in lines old.waiting.queue) m c p old.appender new.appender
    -- over any folder
    pub anywhere : LinesAnywhere failed m (lines_in lines old.waiting.queue) batched.missed old.appender new.appender

  abbrev pub WorksIf : Bool → ℕ → Moment → QueuedSink D → Reply → QueuedSink D → Type 0
  WorksIf true lines m old reply new = (batched : Batched) × WorksQueued lines m old batched new × (reply ≡ Worked batched.taken)
  WorksIf false lines m old reply new = (reply ≡ Refused BadMoment) × (new ≡ old)

  -- what a call on the queue is answered, and what it leaves
  abbrev pub CallsQueue : QueueCall → QueuedSink D → Reply → QueuedSink D → Type 0
  CallsQueue (Work lines m) old reply new = WorksIf (is_moment m) lines m old reply new
  CallsQueue Admit old reply new = (result : Result (Unit {0}) AdmitError) × Admits old.waiting result new.waiting ×
      (new.appender ≡ old.appender) × (reply ≡ admit_reply result)
  CallsQueue Shutdown old reply new = (result : Result (Unit {0}) MarkError) × Shuts old result new ×
      (new.appender ≡ old.appender) × (reply ≡ shutdown_reply result)

  -- a direct sink refuses each call, and so does a live one
  abbrev pub CallsAny : {Q : Type 0} → AnySink D Q → QueueCall → Reply → AnySink D Q → Type 0
  CallsAny (Direct old) call reply new = (reply ≡ Refused NotQueued) × (new ≡ Direct old)
  CallsAny (Queued old) call reply (Direct new) = ⊥
  CallsAny (Queued old) call reply (Queued new) = CallsQueue call old reply new
  CallsAny (Queued old) call reply (Live new) = ⊥
  CallsAny (Live old) call reply new = (reply ≡ Refused NotQueued) × (new ≡ Live old)

-- whether a line is held beside its queue
abbrev pub holds_line : {D Q : Type 0} → AnySink D Q → Bool
holds_line (Direct sink) = false
holds_line (Live sink) = false
holds_line (Queued sink) = is_some_line sink.waiting.held

-- how many lines found no memory at a sink
abbrev pub missed_by : {D Q : Type 0} → AnySink D Q → ℕ
missed_by (Live sink) = sink.missed
missed_by (Direct sink) = sink.dropped
missed_by (Queued sink) = sink.waiting.missed

-- how many lines are held beside a sink's queue, where it has one
abbrev pub held_by : {D Q : Type 0} → AnySink D Q → Option ℕ
held_by (Direct sink) = None
held_by (Live sink) = None
held_by (Queued sink) = Some (length sink.waiting.held)

-- how many lines its queue dropped, where it is one of a replay
abbrev pub dropped_by_queue : {D Q : Type 0} → AnySink D Q → Option ℕ
dropped_by_queue (Direct sink) = None
dropped_by_queue (Live sink) = None
dropped_by_queue (Queued sink) = Some sink.waiting.queue.dropped

-- so many lines were lost, and there is no folder whose faults could be told
abbrev pub lost_lines : ℕ → Faults
lost_lines lost = record { switches = 0; retentions = 0; writes = lost; last = None }

-- what was lost to the folder's faults, and to a closed waiting queue
abbrev pub faults_of : {D Q : Type 0} → AnySink D Q → Faults
faults_of (Live sink) = lost_lines sink.lost
faults_of (Direct sink) = sink.appender.faults
faults_of (Queued sink) = with_lost sink.waiting.lost sink.appender.faults

-- the rolling file of a sink, where it has one of its own
abbrev pub appender_of : {D Q : Type 0} → AnySink D Q → Option (RollingFileAppender D)
appender_of (Direct sink) = Some sink.appender
appender_of (Queued sink) = Some sink.appender
appender_of (Live sink) = None

-- the queue of a live sink
abbrev pub live_of : {D Q : Type 0} → AnySink D Q → Option Q
live_of (Direct sink) = None
live_of (Queued sink) = None
live_of (Live sink) = Some sink.queue

abbrev pub bytes_in : List (At × PlainLine) → List (List ℕ)
bytes_in lines = map (λ (x : At × PlainLine). x.1.bytes) lines

-- lines came to a queue one after another, and nothing was written
pub record SettlesRun {D : Type 0} (lines : List (At × PlainLine)) (old new : QueuedSink D) : Type 0 where
  pub fates : List Fate
  pub settled : SettlesAll old.waiting (bytes_in lines) fates new.waiting
  pub files : new.appender ≡ old.appender

module _ {D Q : Type 0} (contents : D → Option Contents) (failed : D → ℕ) (settles : Q → List ℕ → Fate → Q → Type 0) where
  -- what a run of lines leaves of a sink of each kind
  pub record KindsStay : Type 0 where
    pub direct : (lines : List (At × PlainLine)) (old : RollingSink D) (new : AnySink D Q) →
        TakesRun (TakesAny contents failed settles) lines (Direct old) new →
        (made : RollingSink D) × (new ≡ Direct made) × TakesRun (TakesLine contents failed) lines old made
    pub queued : (lines : List (At × PlainLine)) (old : QueuedSink D) (new : AnySink D Q) →
        TakesRun (TakesAny contents failed settles) lines (Queued old) new →
        (made : QueuedSink D) × (new ≡ Queued made) × SettlesRun lines old made
    pub live : (lines : List (At × PlainLine)) (old : LiveSink Q) (new : AnySink D Q) →
        TakesRun (TakesAny contents failed settles) lines (Live old) new →
        (made : LiveSink Q) × (new ≡ Live made) × TakesLives settles (bytes_in lines) old made
