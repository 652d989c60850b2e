-- A step of a worker, and two steps that take as many lines.
use Rattle.std.specs.Prelude.{◌≡◌, ◌≢◌, ◌<◌, ◌+◌, ◌-◌, ◌^◌, ℕ, Option, Some}
use Rattle.tracing_core_moments.specs.declared.moment.Moment.{Moment}
use Rattle.tracing_appender_rolling.specs.Appenders.{Holds}
use Rattle.tracing_appender_rolling.specs.Builders.{builder_names}
use Rattle.tracing_appender_rolling.specs.Looks.{Held}
use Rattle.tracing_appender_rolling.specs.folders.Contents.{Contents, IsSound}
use Rattle.tracing_appender_queue.specs.declared.queued.queued_sink.QueuedSink.{QueuedSink}
use Rattle.tracing_appender_queue.specs.queued.QueuedWork.{WorksFrom}
use Rattle.span_tracing_outputs.specs.sinks.QueueFiles.{NoneMissed}
use Rattle.span_tracing_outputs.specs.sinks.SinkCalls.{CallsIn}
use Rattle.span_tracing_outputs.specs.declared.sinks.any_sink.AnySink.TheVariants.{Queued}
use Rattle.span_tracing_skeleton.specs.declared.call.Reply.TheVariants.{Worked}
use Rattle.span_tracing_skeleton.specs.declared.queue_call.QueueCall.TheVariants.{Work}
use Rattle.span_tracing_steps.specs.SinkCalls.{DriveGives}
use Rattle.span_tracing_laws.specs.runs.DrivenSinks.{drives}
use Rattle.span_tracing_laws.specs.runs.Files.{FileTrace}
use Rattle.span_tracing_laws.specs.queue_steps.SinkPlaces.{sink_at, with_sink}

-- each line that was taken found memory and was written whole: the counts of others stayed, and neither is the greatest one
pub record NoneLost {D : Type 0} (old new : QueuedSink D) : Type 0 where
  pub memory : NoneMissed old new
  pub written : new.appender.faults.writes ≡ old.appender.faults.writes
  pub not_full : old.appender.faults.writes < 2 ^ 64 - 1

-- Two sinks have the same queue, held lines and counts, and the same names of files. Their folders have the same contents, and their
-- appenders the same current file, the same end of its period and the same faults.
pub record SameWork {D : Type 0} (contents : D → Option Contents) (one other : QueuedSink D) : Type 0 where
  pub waiting : other.waiting ≡ one.waiting
  pub names : builder_names other.appender.builder ≡ builder_names one.appender.builder
  pub files : Held
  pub holds_one : Holds contents one.appender files
  pub holds_other : Holds contents other.appender files

module _ {N E F D Q : Type 0} (contents : D → Option Contents) (failed : D → ℕ) where
  -- a worker's step took so many lines of the sink with a number
  abbrev pub Stepped : FileTrace N E F D Q → ℕ → ℕ → Moment → ℕ → FileTrace N E F D Q → Type 0
  Stepped v sink lines m taken w = DriveGives (drives (CallsIn contents failed)) v sink (Work lines m) (Worked taken) w

-- Two steps of a worker over one sink at one moment, which lost no line. The sink's folder refuses nothing and takes each write whole.
pub record TwoSteps {N E F D Q : Type 0} (contents : D → Option Contents) (failed : D → ℕ) (u v w : FileTrace N E F D Q) (sink k l a b : ℕ)
    (m : Moment) (old cut : QueuedSink D) (h : Held) : Type 0 where
  pub first : Stepped contents failed u sink k m a v
  pub second : Stepped contents failed v sink l m b w
  pub before : sink_at u sink ≡ Some (Queued old)
  pub after : sink_at w sink ≡ Some (Queued cut)
  pub files : Holds contents old.appender h
  pub sound : IsSound h.contents
  pub kept : NoneLost old cut

-- They changed nothing but the sink, and left of its queue and its files what one step of as many lines leaves that finds memory for each.
pub record JoinsSteps {N E F D Q : Type 0} (contents : D → Option Contents) (u w : FileTrace N E F D Q) (sink k l a b : ℕ) (m : Moment)
    (old cut : QueuedSink D) (h : Held) : Type 0 where
  pub left : w ≡ with_sink u sink (Queued cut)
  pub others_stay : (other : ℕ) → sink ≢ other → sink_at w other ≡ sink_at u other
  pub work : WorksFrom contents (k + l) m h (record { taken = a + b; missed = 0 }) old cut

-- One step of as many lines took as many as the two. It changed nothing but the sink, and left of its queue and files what the two left.
pub record CutAlike {N E F D Q : Type 0} (contents : D → Option Contents) (u x : FileTrace N E F D Q) (sink a b c : ℕ)
    (cut whole : QueuedSink D) : Type 0 where
  pub numbers : c ≡ a + b
  pub left : x ≡ with_sink u sink (Queued whole)
  pub others_stay : (other : ℕ) → sink ≢ other → sink_at x other ≡ sink_at u other
  pub same : SameWork contents cut whole

-- A worker's step may be cut in two at its moment: two steps that lost no line are one step, and each step of as many lines from the same
-- state that finds memory for each leaves the same.
pub record TraceWorkMayBeCut (N E F Q : Type 0) {D : Type 0} (contents : D → Option Contents) (failed : D → ℕ) : Type 0 where
  pub joined : (u v w : FileTrace N E F D Q) (sink k l a b : ℕ) (m : Moment) (old cut : QueuedSink D) (h : Held) →
      TwoSteps contents failed u v w sink k l a b m old cut h → JoinsSteps contents u w sink k l a b m old cut h
  pub cut : (u v w x : FileTrace N E F D Q) (sink k l a b c : ℕ) (m : Moment) (old cut whole : QueuedSink D) (h : Held) →
      TwoSteps contents failed u v w sink k l a b m old cut h → Stepped contents failed u sink (k + l) m c x →
      sink_at x sink ≡ Some (Queued whole) → NoneMissed old whole → CutAlike contents u x sink a b c cut whole
