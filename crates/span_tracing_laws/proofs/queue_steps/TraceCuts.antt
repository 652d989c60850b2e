-- A step of a worker over a sink of a trace, and two steps that take as many lines.
use Rattle.std.proofs.Common.{◌≡◌, ◌∙◌, ◌+◌, Bool, true, false, ℕ, Option, Some, refl, sym, ap, subst, arith}
use Rattle.tracing_core_moments.specs.Moments.{is_moment}
use Rattle.tracing_core_moments.specs.declared.moment.Moment.{Moment}
use Rattle.tracing_appender_rolling.specs.Looks.{Held}
use Rattle.tracing_appender_rolling.specs.folders.Contents.{Contents}
use Rattle.tracing_appender_queue.specs.declared.queued.queued_sink.QueuedSink.{QueuedSink}
use Rattle.tracing_appender_queue.specs.declared.worker.step.Batched.{Batched}
use Rattle.tracing_appender_queue.specs.queued.QueuedWork.{WorkMayBeCut, WorksFrom}
use Rattle.span_tracing_outputs.specs.sinks.AnySinks.{CallsAny, WorksIf, WorksQueued}
use Rattle.span_tracing_outputs.specs.sinks.QueueFiles.{NoneMissed}
use Rattle.span_tracing_outputs.specs.declared.sinks.any_sink.AnySink.{AnySink}
use Rattle.span_tracing_outputs.specs.declared.sinks.any_sink.AnySink.TheVariants.{Direct, Queued, Live}
use Rattle.span_tracing_skeleton.specs.declared.call.Reply.TheVariants.{Worked}
use Rattle.span_tracing_skeleton.specs.declared.queue_call.QueueCall.TheVariants.{Work}
use Rattle.span_tracing_laws.specs.runs.Files.{FileTrace}
use Rattle.span_tracing_laws.specs.queue_steps.SinkPlaces.{sink_at, with_sink}
use Rattle.span_tracing_laws.specs.queue_steps.WorkCuts.{CutAlike, JoinsSteps, Stepped, TraceWorkMayBeCut, TwoSteps}
use Rattle.span_tracing_laws.proofs.queue_steps.OtherSinks.{put_else}
use Rattle.span_tracing_laws.proofs.queue_steps.SinkCuts.{Joined, sinks_join, sinks_same, works_from}
use Rattle.span_tracing_laws.proofs.queue_steps.SinkPlaces.{put_again, put_own, sink_called}

sums : (a b x y : ℕ) → a ≡ x → b ≡ y → x + y ≡ a + b
sums a b x y first second = omega (arith, first, second)

module _ {D : Type 0} (Q : Type 0) (contents : D → Option Contents) (failed : D → ℕ) where
  -- a step that took lines was one of a queued sink, at a moment in range
  worked_if : (b : Bool) (k a : ℕ) (m : Moment) (old new : QueuedSink D) → WorksIf contents failed b k m old (Worked a) new →
      (batched : Batched) × WorksQueued contents failed k m old batched new × (a ≡ batched.taken)
  worked_if true k a m old new (batched, works, told) = let same : a ≡ batched.taken = cc in (batched, works, same)
  worked_if false k a m old new (told, same) = absurd (cc)

  worked : (k a : ℕ) (m : Moment) (old new : QueuedSink D) → CallsAny contents failed {Q = Q} (Queued old) (Work k m) (Worked a) (Queued new) →
      (batched : Batched) × WorksQueued contents failed k m old batched new × (a ≡ batched.taken)
  worked k a m old new calls = worked_if (is_moment m) k a m old new calls

  stays_queued : (k a : ℕ) (m : Moment) (old : QueuedSink D) (t : AnySink D Q) →
      CallsAny contents failed {Q = Q} (Queued old) (Work k m) (Worked a) t → (new : QueuedSink D) × (t ≡ Queued new)
  stays_queued k a m old (Direct new) calls = absurd calls
  stays_queued k a m old (Live new) calls = absurd calls
  stays_queued k a m old (Queued new) calls = (new, refl)

  same_sink : (t s : AnySink D Q) → Some t ≡ Some s → t ≡ s
  same_sink t s e = cc

  module _ {N E F : Type 0} where
    stepped : (v w : FileTrace N E F D Q) (sink k a : ℕ) (m : Moment) (old : QueuedSink D) → Stepped contents failed v sink k m a w →
        sink_at v sink ≡ Some (Queued old) →
        (new : QueuedSink D) × CallsAny contents failed {Q = Q} (Queued old) (Work k m) (Worked a) (Queued new) ×
        (w ≡ with_sink v sink (Queued new)) × (sink_at w sink ≡ Some (Queued new))
    stepped v w sink k a m old step its =
        let called = sink_called Q contents failed v sink (Work k m) (Worked a) w (Queued old) step its in
        let queued = stays_queued k a m old called.0 called.1 in
        let calls = subst (λ (t : AnySink D Q). CallsAny contents failed {Q = Q} (Queued old) (Work k m) (Worked a) t) queued.1 called.1 in
        let left : w ≡ with_sink v sink (Queued queued.0) = called.2 ∙ ap (λ (t : AnySink D Q). with_sink v sink t) queued.1 in (
          queued.0,
          calls,
          left,
          ap (λ (x : FileTrace N E F D Q). sink_at x sink) left ∙ put_own v sink (Queued old) (Queued queued.0) its,
        )

    -- the sink that the step left is this one
    found : (v w : FileTrace N E F D Q) (sink k a : ℕ) (m : Moment) (old new : QueuedSink D) → Stepped contents failed v sink k m a w →
        sink_at v sink ≡ Some (Queued old) → sink_at w sink ≡ Some (Queued new) →
        CallsAny contents failed {Q = Q} (Queued old) (Work k m) (Worked a) (Queued new) × (w ≡ with_sink v sink (Queued new))
    found v w sink k a m old new step its their =
        let goes = stepped v w sink k a m old step its in
        let same : Queued goes.0 ≡ Queued new = same_sink (Queued goes.0) (Queued new) (sym goes.3 ∙ their) in (
          subst (λ (t : AnySink D Q). CallsAny contents failed {Q = Q} (Queued old) (Work k m) (Worked a) t) same goes.1,
          goes.2 ∙ ap (λ (t : AnySink D Q). with_sink v sink t) same,
        )

  module _ {N E F : Type 0} (cut : WorkMayBeCut) (u v w : FileTrace N E F D Q) (sink k l a b : ℕ) (m : Moment) (old two : QueuedSink D)
      (h : Held) (steps : TwoSteps contents failed u v w sink k l a b m old two h) where
    -- the two steps, as one of the sink
    record AsOne : Type 0 where
      pub one : ℕ
      pub other : ℕ
      pub first : a ≡ one
      pub second : b ≡ other
      pub joined : Joined contents failed m k l old two one other h
      pub left : w ≡ with_sink u sink (Queued two)

    as_one : AsOne
    as_one =
        let start = stepped u v sink k a m old steps.first steps.before in
        let next = found v w sink l b m start.0 two steps.second start.3 steps.after in
        let its_first = worked k a m old start.0 start.1 in
        let its_second = worked l b m start.0 two next.0 in
        record {
          one = its_first.0.taken;
          other = its_second.0.taken;
          first = its_first.2;
          second = its_second.2;
          joined = sinks_join contents failed m cut k l old start.0 two its_first.0 its_second.0 its_first.1 its_second.1 h steps.files
              steps.sound steps.kept;
          left = next.1 ∙ ap (λ (y : FileTrace N E F D Q). with_sink y sink (Queued two)) start.2 ∙
              put_again u sink (Queued old) (Queued start.0) (Queued two) steps.before;
        }

    joins : JoinsSteps contents u w sink k l a b m old two h
    joins = record {
      left = as_one.left;
      others_stay = λ other apart. ap (λ (y : FileTrace N E F D Q). sink_at y other) as_one.left ∙ put_else u sink other (Queued two) apart;
      work = subst (λ (n : ℕ). WorksFrom contents (k + l) m h (record { taken = n; missed = 0 }) old two)
          (sums a b as_one.one as_one.other as_one.first as_one.second)
          (works_from contents failed m k l old two as_one.one as_one.other h as_one.joined);
    }

    alike : (x : FileTrace N E F D Q) (c : ℕ) (one : QueuedSink D) → Stepped contents failed u sink (k + l) m c x →
        sink_at x sink ≡ Some (Queued one) → NoneMissed old one → CutAlike contents u x sink a b c two one
    alike x c one all ones fed =
        let whole = found u x sink (k + l) c m old one all steps.before ones in
        let its = worked (k + l) c m old one whole.0 in
        let same = sinks_same contents failed m k l old two one as_one.one as_one.other its.0 h as_one.joined steps.files its.1 fed in
        record {
          numbers = its.2 ∙ same.0 ∙ sums a b as_one.one as_one.other as_one.first as_one.second;
          left = whole.1;
          others_stay = λ other apart. ap (λ (y : FileTrace N E F D Q). sink_at y other) whole.1 ∙ put_else u sink other (Queued one) apart;
          same = same.1;
        }

  pub traces_cut : (N E F : Type 0) → WorkMayBeCut → TraceWorkMayBeCut N E F Q contents failed
  traces_cut N E F cut = record {
    joined = λ u v w sink k l a b m old two h steps. joins cut u v w sink k l a b m old two h steps;
    cut = λ u v w x sink k l a b c m old two one h steps all ones fed.
        alike cut u v w sink k l a b m old two h steps x c one all ones fed;
  }
