-- Steps of workers, each over a queue and a sink: cut in parts, and in another order.
use Rattle.std.specs.Prelude.{◌≡◌, ◌≢◌, ℕ, ◌+◌, false, List, [], ◌∷◌, ◌++◌, length}
use Rattle.tracing_core_moments.specs.declared.moment.Moment.{Moment}
use Rattle.tracing_appender_rolling.specs.Names.{FileNames}
use Rattle.tracing_appender_rolling.specs.folders.Contents.{IsSound}
use Rattle.tracing_appender_rolling.specs.Looks.{Held}
use Rattle.tracing_appender_queue.specs.Queue.{Queue}
use Rattle.tracing_appender_queue.specs.declared.worker.step.Written.{Written}
use Rattle.tracing_appender_queue.specs.worker.Batches.{lines_in, queue_in}
use Rattle.tracing_appender_queue.specs.worker.Steps.{missed_in, last_whole, LinesTo, flushed_if, AllWhole}

-- a queue, and the sink that its lines go to
pub record Worker : Type 0 where
  pub queue : Queue
  pub sink : Held

-- A step of so many lines at a moment: how many it took, what became of each, and what it leaves.
pub record StepTo (names : FileNames) (m : Moment) (k : ℕ) (w : Worker) (taken : ℕ) (fates : List Written) (next : Worker) : Type 0 where
  pub last : Held
  pub lines : LinesTo names m w.sink (lines_in k w.queue) fates last
  pub count : taken ≡ length (lines_in k w.queue)
  pub queue_left : next.queue ≡ queue_in k w.queue
  pub sink_left : next.sink ≡ flushed_if (last_whole false fates) last

-- steps one after another at one moment, and how many lines they took in all
abbrev pub StepsTo : FileNames → Moment → List ℕ → Worker → ℕ → List Written → Worker → Type 0
StepsTo names m [] w taken fates next = (taken ≡ 0) × (fates ≡ []) × (next ≡ w)
StepsTo names m (k ∷ ks) w taken fates next =
    (middle : Worker) × (first rest : ℕ) × (one more : List Written) × StepTo names m k w first one middle ×
    StepsTo names m ks middle rest more next × (taken ≡ first + rest) × (fates ≡ one ++ more)

abbrev pub total : List ℕ → ℕ
total [] = 0
total (k ∷ ks) = k + total ks

-- Where the folder refuses nothing and the lines of steps at one moment are written whole, one step of as many lines leaves exactly the
-- queue and the sink that these leave, its
-- folder included, and takes as many lines; and no other end has such a step to which no memory is refused.
abbrev pub StepsMayBeCut : Type 0
StepsMayBeCut = (names : FileNames) (m : Moment) (k : ℕ) (ks : List ℕ) (w last : Worker) (taken : ℕ) (fates : List Written) →
    IsSound w.sink.contents → AllWhole fates →
    StepsTo names m (k ∷ ks) w taken fates last →
    StepTo names m (total (k ∷ ks)) w taken fates last
    × ((other : Worker) (number : ℕ) (others : List Written) → missed_in others ≡ 0 →
    StepTo names m (total (k ∷ ks)) w number others other → (other ≡ last) × (number ≡ taken))

-- A step of the worker with this number among workers that each have a queue and a sink, with its folder, of their own; the others stay.
pub record StepOf (names : ℕ → FileNames) (number : ℕ) (m : Moment) (k : ℕ) (ws : ℕ → Worker) (taken : ℕ) (fates : List Written)
    (next : ℕ → Worker) : Type 0 where
  pub step : StepTo (names number) m k (ws number) taken fates (next number)
  pub others_stay : (other : ℕ) → other ≢ number → next other ≡ ws other

-- neighbouring steps of two workers may change places, each with its own moment: each takes as many lines with the same fates, and the same
-- is left
abbrev pub StepsMayChangePlaces : Type 0
StepsMayChangePlaces = (names : ℕ → FileNames) (one other : ℕ) (m n : Moment) (k l : ℕ) (ws middle last : ℕ → Worker) (a b : ℕ)
    (fates others : List Written) → one ≢ other →
    StepOf names one m k ws a fates middle → StepOf names other n l middle b others last →
    (instead : ℕ → Worker) × StepOf names other n l ws b others instead × StepOf names one m k instead a fates last
