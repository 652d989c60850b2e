-- What comes to sinks step by step: lines, and calls on their queues.
use Rattle.std.specs.Prelude.{◌≡◌, ◌==◌, ℕ, Bool, true, false, if◌then◌else◌, List, [], ◌∷◌, ◌++◌, Option, Some, None, slice_get}
use Rattle.tracing_core_moments.specs.declared.at.At.{At}
use Rattle.tracing_appender_rolling.specs.folders.Contents.{Contents}
use Rattle.tracing_appender_queue.specs.declared.queued.fate.Fate.{Fate}
use Rattle.tracing_appender_queue.specs.declared.queued.queued_sink.QueuedSink.{QueuedSink}
use Rattle.event_formatter_text.specs.declared.makers.route.Route.{Route}
use Rattle.span_tracing_skeleton.specs.declared.call.Reply.{Reply}
use Rattle.span_tracing_skeleton.specs.declared.queue_call.QueueCall.{QueueCall}
use Rattle.span_tracing_outputs.specs.OutputMachines.{PlainLine}
use Rattle.span_tracing_outputs.specs.sinks.AnySinks.{CallsAny, CallsQueue, SettlesRun, TakesAny, bytes_in}
use Rattle.span_tracing_outputs.specs.sinks.OutputRuns.{RunsEach}
use Rattle.span_tracing_outputs.specs.sinks.Routed.{Routed, TakesRouted, sent_to}
use Rattle.span_tracing_outputs.specs.sinks.Runs.{TakesRun}
use Rattle.span_tracing_outputs.specs.sinks.SinkCalls.{CallsIn, sink_place}
use Rattle.span_tracing_outputs.specs.sinks.Takes.{TakesLine}
use Rattle.span_tracing_outputs.specs.declared.has_sinks.SinkPlace.{SinkPlace}
use Rattle.span_tracing_outputs.specs.declared.sinks.any_sink.AnySink.{AnySink}
use Rattle.span_tracing_outputs.specs.declared.sinks.any_sink.AnySink.TheVariants.{Direct, Queued, Live}
use Rattle.span_tracing_outputs.specs.declared.sinks.live.LiveSink.{LiveSink}
use Rattle.span_tracing_outputs.specs.declared.sinks.sink.RollingSink.{RollingSink}
use Rattle.span_tracing_outputs.specs.sinks.LiveSinks.{TakesLives}

-- what comes to the sinks of a stack at a step: for each output its lines, or a call on the queue of the sink with a number, and its answer
pub data StackTurn : Type 0 where
  Offered : List (List (At × PlainLine)) → StackTurn
  Called : ℕ → QueueCall → Reply → StackTurn

module _ {S : Type 0} (takes : S → At → PlainLine → S → Type 0) (calls : ℕ → QueueCall → List S → Reply → List S → Type 0) where
  abbrev pub StackMeets : StackTurn → List S → List S → Type 0
  StackMeets (Offered runs) olds news = RunsEach takes runs olds news
  StackMeets (Called number call reply) olds news = calls number call olds reply news

  -- step by step
  abbrev pub StackMeetsAll : List StackTurn → List S → List S → Type 0
  StackMeetsAll [] olds news = news ≡ olds
  StackMeetsAll (t ∷ ts) olds news = (mids : List S) × StackMeets t olds mids × StackMeetsAll ts mids news

-- what comes to one sink: lines, or a call on its queue, and its answer
pub data SinkTurn : Type 0 where
  Came : List (At × PlainLine) → SinkTurn
  Asked : QueueCall → Reply → SinkTurn

-- all lines that come to it, in order
abbrev pub came_in : List SinkTurn → List (At × PlainLine)
came_in [] = []
came_in (Came lines ∷ ts) = lines ++ came_in ts
came_in (Asked call reply ∷ ts) = came_in ts

abbrev pub run_or_none : Option (List (At × PlainLine)) → List (At × PlainLine)
run_or_none None = []
run_or_none (Some run) = run

abbrev pub is_there : Option SinkPlace → ℕ → ℕ → Bool
is_there None place number = false
is_there (Some at) place number = if at.output == place then at.sink == number else false

abbrev pub asked_if : Bool → QueueCall → Reply → List SinkTurn → List SinkTurn
asked_if true call reply later = Asked call reply ∷ later
asked_if false call reply later = later

module _ {S : Type 0} (sinks : List (Routed S)) (place number : ℕ) (route : Route) where
  abbrev pub turn_for : StackTurn → List SinkTurn → List SinkTurn
  turn_for (Offered runs) later = Came (sent_to route number (run_or_none (slice_get runs place))) ∷ later
  turn_for (Called sink call reply) later = asked_if (is_there (sink_place sinks 0 sink) place number) call reply later

  -- What of all this comes to the sink with a number of the output at a place: those lines that the route sends there, and the calls on its
  -- queue.
  abbrev pub turns_for : List StackTurn → List SinkTurn
  turns_for [] = []
  turns_for (t ∷ ts) = turn_for t (turns_for ts)

-- What comes to a queue: each line is queued, dropped, held or lost as the queue says, or finds no memory, and nothing is written; a call
-- does as it says.
module _ {D : Type 0} (contents : D → Option Contents) (failed : D → ℕ) where
  abbrev pub QueueMeets : SinkTurn → QueuedSink D → QueuedSink D → Type 0
  QueueMeets (Came lines) old new = SettlesRun lines old new
  QueueMeets (Asked call reply) old new = CallsQueue contents failed call old reply new

  abbrev pub QueueMeetsAll : List SinkTurn → QueuedSink D → QueuedSink D → Type 0
  QueueMeetsAll [] old new = new ≡ old
  QueueMeetsAll (t ∷ ts) old new = (mid : QueuedSink D) × QueueMeets t old mid × QueueMeetsAll ts mid new

module _ {D Q : Type 0} (contents : D → Option Contents) (failed : D → ℕ) (settles : Q → List ℕ → Fate → Q → Type 0) where
  abbrev pub SinkMeets : SinkTurn → AnySink D Q → AnySink D Q → Type 0
  SinkMeets (Came lines) old new = TakesRun (TakesAny contents failed settles) lines old new
  SinkMeets (Asked call reply) old new = CallsAny contents failed old call reply new

  abbrev pub SinkMeetsAll : List SinkTurn → AnySink D Q → AnySink D Q → Type 0
  SinkMeetsAll [] old new = new ≡ old
  SinkMeetsAll (t ∷ ts) old new = (mid : AnySink D Q) × SinkMeets t old mid × SinkMeetsAll ts mid new

  -- the sink with a number of the output at a place met just what came to it, whatever came to the others; and the route stays
  pub record MetTheirs (ts : List StackTurn) (olds news : List (Routed (AnySink D Q))) (place : ℕ) (old : Routed (AnySink D Q)) (number : ℕ)
      (sink : AnySink D Q) : Type 0 where
    pub routed : Routed (AnySink D Q)
    pub after : AnySink D Q
    pub stands : slice_get news place ≡ Some routed
    pub route : routed.route ≡ old.route
    pub its : slice_get routed.sinks number ≡ Some after
    pub met : SinkMeetsAll (turns_for olds place number old.route ts) sink after

  pub record SinksMeetTheirs : Type 0 where
    pub each : (ts : List StackTurn) (olds news : List (Routed (AnySink D Q))) →
        StackMeetsAll (TakesRouted (TakesAny contents failed settles)) (CallsIn contents failed) ts olds news →
        (place : ℕ) (old : Routed (AnySink D Q)) → slice_get olds place ≡ Some old → (number : ℕ) (sink : AnySink D Q) →
        slice_get old.sinks number ≡ Some sink → MetTheirs ts olds news place old number sink
    -- a direct sink stays one, and takes all its lines as they come
    pub direct : (ts : List SinkTurn) (old : RollingSink D) (new : AnySink D Q) → SinkMeetsAll ts (Direct old) new →
        (made : RollingSink D) × (new ≡ Direct made) × TakesRun (TakesLine contents failed) (came_in ts) old made
    -- a queued one stays one
    pub queued : (ts : List SinkTurn) (old : QueuedSink D) (new : AnySink D Q) → SinkMeetsAll ts (Queued old) new →
        (made : QueuedSink D) × (new ≡ Queued made) × QueueMeetsAll contents failed ts old made
    -- so does a live one, whose queue was offered all its lines, in order
    pub live : (ts : List SinkTurn) (old : LiveSink Q) (new : AnySink D Q) → SinkMeetsAll ts (Live old) new →
        (made : LiveSink Q) × (new ≡ Live made) × TakesLives settles (bytes_in (came_in ts)) old made
