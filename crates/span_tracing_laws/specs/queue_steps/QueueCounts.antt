-- What a queue counts through any lines and calls.
use Rattle.std.specs.Prelude.{◌≡◌, ◌≤◌, ◌^◌, ◌-◌, ℕ, true, false, List, [], ◌∷◌, ◌++◌, Option}
use Rattle.tracing_appender_rolling.specs.folders.Contents.{Contents}
use Rattle.tracing_appender_queue.specs.declared.queued.fate.Fate.{Fate}
use Rattle.tracing_appender_queue.specs.declared.queued.queued_sink.QueuedSink.{QueuedSink}
use Rattle.tracing_appender_queue.specs.queued.LineFates.{SettlesAll, dropped_in, lost_in, more}
use Rattle.span_tracing_outputs.specs.sinks.AnySinks.{CallsQueue, bytes_in}
use Rattle.span_tracing_outputs.specs.sinks.SinkTurns.{Asked, Came, QueueMeetsAll, SinkTurn}

module _ {D : Type 0} (contents : D → Option Contents) (failed : D → ℕ) where
  -- the fates of the lines that came, in order; each is as the queue's state decides, or the line found no memory, and none is written
  abbrev pub FatesOf : List SinkTurn → List Fate → QueuedSink D → QueuedSink D → Type 0
  FatesOf [] fates old new = (fates ≡ []) × (new ≡ old)
  FatesOf (Came lines ∷ ts) fates old new = (mid : QueuedSink D) × (first later : List Fate) × (fates ≡ first ++ later) ×
      SettlesAll old.waiting (bytes_in lines) first mid.waiting × (mid.appender ≡ old.appender) × FatesOf ts later mid new
  FatesOf (Asked call reply ∷ ts) fates old new = (mid : QueuedSink D) × CallsQueue contents failed call old reply mid ×
      FatesOf ts fates mid new

  -- Each line that came has a fate, and with these fates the counts rose by just the lines that were dropped or lost. A waiting queue drops
  -- none; a lossy one that holds no line holds none and loses none.
  pub record QueueCounts (ts : List SinkTurn) (old new : QueuedSink D) : Type 0 where
    pub fates : List Fate
    pub told : FatesOf ts fates old new
    pub lossy : new.waiting.queue.lossy ≡ old.waiting.queue.lossy
    pub dropped : old.waiting.queue.dropped ≤ 2 ^ 64 - 1 →
        new.waiting.queue.dropped ≡ more old.waiting.queue.dropped (dropped_in fates)
    pub lost : old.waiting.lost ≤ 2 ^ 64 - 1 → new.waiting.lost ≡ more old.waiting.lost (lost_in fates)
    pub waiting : old.waiting.queue.lossy ≡ false → dropped_in fates ≡ 0
    pub none_held : old.waiting.queue.lossy ≡ true → old.waiting.held ≡ [] → (new.waiting.held ≡ []) × (lost_in fates ≡ 0)

  pub record QueuesCount : Type 0 where
    pub each : (ts : List SinkTurn) (old new : QueuedSink D) → QueueMeetsAll contents failed ts old new → QueueCounts ts old new
