-- Each output goes its own way while all filters answer the same, whatever the other outputs' formats and kept texts are, also those of
-- other stacks, and whatever becomes of their texts and lines.
use Rattle.std.specs.Prelude.{◌≡◌, ℕ, List, [], ◌∷◌, Option, Some, None, slice_get}
use Rattle.event_formatter_text.specs.declared.format_fields.FormatFields.{Ghosts}
use Rattle.span_tracing_skeleton.specs.Skeleton.{Skeleton}
use Rattle.span_tracing_outputs.specs.OutputFolds.{Fates}
use Rattle.span_tracing_laws.specs.runs.Runs.{Drove, Plain, StepWithMask, Starved, Waited, Went, lines_of, plain_after, plain_run}
use Rattle.span_tracing_laws.specs.runs.StepNotices.{Told, told_of, told_to}
use Rattle.span_tracing_laws.specs.starved.StarvedCounts.{list_at}

-- two plain states with one skeleton and the same output machine at a place of a stack, whatever their other machines are
pub record AreAlikeAt {N : Type 0} (stack place : ℕ) (p q : Plain N) : Type 0 where
  pub skeleton : p.skeleton ≡ q.skeleton
  pub out : slice_get (p.outs stack) place ≡ slice_get (q.outs stack) place

-- the same fates of the texts and lines of the output at a place, where its stack is told something
abbrev pub FatedAlikeAt : {N : Type 0} → ℕ → Option (Told N) → Fates → Fates → Type 0
FatedAlikeAt place None fates others = Unit {0}
FatedAlikeAt place (Some told) fates others = list_at fates place ≡ list_at others place

-- the same step with the same answers, and the same fates of the texts and lines of the output at a place of a stack, whatever became of
-- the others'
abbrev pub GoAlikeAt : Type 0 → Skeleton → ℕ → ℕ → StepWithMask → StepWithMask → Type 0
GoAlikeAt N s stack place (Went step a fates) (Went other b others) =
    (step ≡ other) × (a ≡ b) × FatedAlikeAt place (told_to N stack (told_of N s step a)) fates others
GoAlikeAt N s stack place (Starved step) (Starved other) = step ≡ other
GoAlikeAt N s stack place (Waited step) (Waited other) = step ≡ other
GoAlikeAt N s stack place (Drove ask answer) (Drove other reply) = ask ≡ other
GoAlikeAt N s stack place t u = ⊥

module _ {N : Type 0} (n : Ghosts N) where
  abbrev pub AllGoAlikeAt : ℕ → ℕ → Plain N → List StepWithMask → List StepWithMask → Type 0
  AllGoAlikeAt stack place p [] [] = Unit {0}
  AllGoAlikeAt stack place p [] (u ∷ us) = ⊥
  AllGoAlikeAt stack place p (t ∷ ts) [] = ⊥
  AllGoAlikeAt stack place p (t ∷ ts) (u ∷ us) = GoAlikeAt N p.skeleton stack place t u × AllGoAlikeAt stack place (plain_after n p t) ts us

  -- then the output at that place of that stack is the same afterwards, and offers the same lines
  abbrev pub OutputsGoAlone : Type 0
  OutputsGoAlone = (stack place : ℕ) (p q : Plain N) (ts us : List StepWithMask) → AreAlikeAt stack place p q →
      AllGoAlikeAt stack place p ts us → AreAlikeAt stack place (plain_run n p ts) (plain_run n q us) ×
      (slice_get (lines_of n p ts stack) place ≡ slice_get (lines_of n q us stack) place)
