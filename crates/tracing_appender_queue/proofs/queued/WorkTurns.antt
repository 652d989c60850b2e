-- The lines of a worker's step are handed over in turn.
use Rattle.std.proofs.Common.{◌≡◌, ◌∙◌, Bool, true, false, ℕ, List, [], ◌∷◌, inl, inr, refl, ap}
use Rattle.tracing_core_moments.specs.declared.moment.Moment.{Moment}
use Rattle.tracing_appender_rolling.specs.FilesByTries.{HandedInTurn, IsAtRest}
use Rattle.tracing_appender_rolling.specs.Looks.{Held}
use Rattle.tracing_appender_rolling.specs.Names.{FileNames}
use Rattle.tracing_appender_queue.specs.declared.worker.step.Written.{Written}
use Rattle.tracing_appender_queue.specs.worker.Steps.{answer_of, flushed_if, is_missed, is_whole, last_whole, missed_in, LinesTo}
use Rattle.tracing_appender_queue.specs.queued.QueuedWork.{WorkGoesInTurn, handed_at}
use Rattle.tracing_appender_queue.proofs.worker.StepDeterminism.{first_fed, starved_is}

at_rest : (whole : Bool) (h : Held) → IsAtRest h (flushed_if whole h)
at_rest true h = inr refl
at_rest false h = inl refl

in_turn : (names : FileNames) (m : Moment) (h last : Held) (lines : List (List ℕ)) (fates : List Written) → missed_in fates ≡ 0 →
    LinesTo names m h lines fates last → HandedInTurn names h (handed_at m lines) (flushed_if (last_whole false fates) last)
in_turn names m h last [] [] fed same = same
in_turn names m h last [] (f ∷ fs) fed goes = absurd goes
in_turn names m h last (l ∷ ls) [] fed goes = absurd goes
in_turn names m h last (l ∷ []) (f ∷ []) fed (middle, one, same) = (
  middle,
  answer_of f,
  starved_is f ∙ (first_fed (is_missed f) 0 fed).0,
  one,
  flushed_if (is_whole f) middle,
  at_rest (is_whole f) middle,
  ap (flushed_if (is_whole f)) same,
)
in_turn names m h last (l ∷ []) (f ∷ g ∷ fs) fed (middle, one, more) = absurd more
in_turn names m h last (l ∷ k ∷ ls) (f ∷ []) fed (middle, one, more) = absurd more
in_turn names m h last (l ∷ k ∷ ls) (f ∷ g ∷ fs) fed (middle, one, more) =
    let both = first_fed (is_missed f) (missed_in (g ∷ fs)) fed in (
      middle,
      answer_of f,
      starved_is f ∙ both.0,
      one,
      middle,
      inl refl,
      in_turn names m middle last (k ∷ ls) (g ∷ fs) both.1 more,
    )

pub work_turns : WorkGoesInTurn
work_turns = in_turn
