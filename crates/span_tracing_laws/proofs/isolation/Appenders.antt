-- Appenders that are alike stay so while the same lines come to them.
use Rattle.std.proofs.Common.{◌≡◌, ◌∙◌, ℕ, false, List, [], ◌∷◌, Option, sym, subst}
use Rattle.tracing_core_moments.specs.declared.at.At.{At}
use Rattle.tracing_core_moments.specs.declared.moment.Moment.{Moment}
use Rattle.tracing_appender_rolling.specs.Appenders.{Holds}
use Rattle.tracing_appender_rolling.specs.Builders.{builder_names}
use Rattle.tracing_appender_rolling.specs.LineHandover.{LinesHaveOneEnd}
use Rattle.tracing_appender_rolling.specs.Looks.{Held}
use Rattle.tracing_appender_rolling.specs.Names.{FileNames}
use Rattle.tracing_appender_rolling.specs.folders.Contents.{Contents}
use Rattle.span_tracing_outputs.specs.OutputMachines.{PlainLine}
use Rattle.span_tracing_outputs.specs.declared.sinks.sink.RollingSink.{RollingSink}
use Rattle.span_tracing_outputs.specs.sinks.Fates.{AllKept, Answered, CountsAreExact, HandsAll, HandsOne, NoneDropped, OutOfRange}
use Rattle.span_tracing_outputs.specs.sinks.Fates.{RunTold, RunsAreTold}
use Rattle.span_tracing_outputs.specs.sinks.Fates.{WriteOutcome, is_dropped}
use Rattle.span_tracing_outputs.specs.sinks.Runs.{TakesRun}
use Rattle.span_tracing_outputs.specs.sinks.Takes.{TakesLine, moment_of}
use Rattle.span_tracing_laws.specs.isolation.IsolatedOutputs.{AppendersAlike}

module _ (one_end : LinesHaveOneEnd) (names : FileNames) where
  -- of one line
  one_same : (m : Moment) (h one two : Held) (bytes : List ℕ) (f g : WriteOutcome) → (is_dropped f ≡ false) → (is_dropped g ≡ false) →
      HandsOne names m h bytes f one → HandsOne names m h bytes g two → one ≡ two
  one_same m h one two bytes OutOfRange g kept also goes hands = absurd (cc)
  one_same m h one two bytes (Answered r) OutOfRange kept also goes hands = absurd (cc)
  one_same m h one two bytes (Answered r) (Answered s) kept also goes hands =
      (one_end names m h one two bytes r s kept also goes.1 hands.1).1

  all_same : (h one two : Held) (lines : List (At × PlainLine)) (fs gs : List WriteOutcome) → AllKept fs → AllKept gs →
      HandsAll names h lines fs one → HandsAll names h lines gs two → one ≡ two
  all_same h one two [] [] [] kept also goes hands = goes ∙ sym hands
  all_same h one two [] [] (g ∷ gs) kept also goes hands = absurd hands
  all_same h one two [] (f ∷ fs) gs kept also goes hands = absurd goes
  all_same h one two (x ∷ xs) [] gs kept also goes hands = absurd goes
  all_same h one two (x ∷ xs) (f ∷ fs) [] kept also goes hands = absurd hands
  all_same h one two (x ∷ xs) (f ∷ fs) (g ∷ gs) kept also (mid, first, rest) (middle, its, later) =
      let same : mid ≡ middle = one_same (moment_of x.0) h mid middle x.1.bytes f g kept.0 also.0 first its in
      all_same middle one two xs fs gs kept.1 also.1 (subst (λ (k : Held). HandsAll names k xs fs one) same rest) later

-- no line of a run was dropped
pub all_kept : {D : Type 0} (contents : D → Option Contents) (failed : D → ℕ) → CountsAreExact → (lines : List (At × PlainLine))
    (old new : RollingSink D) (t : RunTold contents failed lines old new) → NoneDropped old new → AllKept t.fates
all_kept contents failed exact lines old new t none =
    (exact t.fates old.dropped).kept none.not_full (sym t.counted ∙ none.stayed)

module _ {D : Type 0} (contents : D → Option Contents) (failed : D → ℕ) (one_end : LinesHaveOneEnd) (told : RunsAreTold contents failed)
    (exact : CountsAreExact) where
  abbrev Takes : List (At × PlainLine) → RollingSink D → RollingSink D → Type 0
  Takes lines old new = TakesRun (TakesLine contents failed) lines old new

  pub direct_alike : (lines : List (At × PlainLine)) (old new its same : RollingSink D) → Takes lines old new → Takes lines its same →
      NoneDropped old new → NoneDropped its same → AppendersAlike contents old.appender its.appender →
      AppendersAlike contents new.appender same.appender
  direct_alike lines old new its same takes also none nor alike =
      let one = told lines old new takes in
      let two = told lines its same also in
      let kept = all_kept contents failed exact lines old new one none in
      let kept_also = all_kept contents failed exact lines its same two nor in
      let (last, hands, holds) = one.held alike.held alike.one in
      let (end, hands_also, holds_also) = two.held alike.held alike.other in
      let names = builder_names old.appender.builder in
      let by_names = subst (λ (k : FileNames). HandsAll k alike.held lines two.fates end) alike.names hands_also in
      let same_end : end ≡ last =
      sym (all_same one_end names alike.held last end lines one.fates two.fates kept kept_also hands by_names) in
      record {
        names = two.names ∙ alike.names ∙ sym one.names;
        held = last;
        one = holds;
        other = subst (Holds contents same.appender) same_end holds_also;
      }
