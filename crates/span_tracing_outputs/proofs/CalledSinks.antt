-- Calls on queues leave as many sinks and outputs.
use Rattle.std.proofs.Common.{◌≡◌, ◌∙◌, ◌<◌, ◌≤◌, ℕ, List, length, Option, Some, None, refl, ap, sym, subst, get_or, slice_get, slice_set}
use Rattle.std.proofs.lemmas.List.{length-set}
use Rattle.std.proofs.lemmas.Option.{slice_get-get_or, slice_get_past}
use Rattle.tracing_appender_rolling.specs.folders.Contents.{Contents}
use Rattle.span_tracing_skeleton.specs.declared.call.Reply.{Reply}
use Rattle.span_tracing_skeleton.specs.declared.call.Reply.TheVariants.{Refused}
use Rattle.span_tracing_skeleton.specs.declared.queue_call.QueueCall.{QueueCall}
use Rattle.span_tracing_skeleton.specs.declared.refusal.Refusal.TheVariants.{UnknownSink}
use Rattle.span_tracing_outputs.specs.sinks.Routed.{Routed}
use Rattle.span_tracing_outputs.specs.sinks.SinkCalls.{CallsAt, CallsIn, CallsRouted, Reaches, ReachesIf, sink_place}
use Rattle.span_tracing_outputs.specs.declared.has_sinks.SinkPlace.{SinkPlace}
use Rattle.span_tracing_outputs.specs.declared.sinks.any_sink.AnySink.{AnySink}

module _ {A : Type 0} (becomes : A → Reply → A → Type 0) where
  pub reached : (place : ℕ) (xs : List A) (d y : A) (reply : Reply) → place < length xs → becomes (get_or xs place d) reply y →
      Reaches becomes place xs reply (slice_set xs place y)
  reached place xs d y reply within goes =
      subst (λ (o : Option A). ReachesIf becomes place o xs reply (slice_set xs place y))
      (sym (slice_get-get_or xs place d within)) (y, goes, refl)

  pub unreached : (place : ℕ) (xs : List A) → length xs ≤ place → Reaches becomes place xs (Refused UnknownSink) xs
  unreached place xs past =
      subst (λ (o : Option A). ReachesIf becomes place o xs (Refused UnknownSink) xs) (sym (slice_get_past xs place past)) (refl, refl)

  count_by : (place : ℕ) (o : Option A) (xs : List A) (reply : Reply) (after : List A) → ReachesIf becomes place o xs reply after →
      length after ≡ length xs
  count_by place None xs reply after goes = ap length goes.1
  count_by place (Some x) xs reply after goes = ap length goes.2 ∙ length-set xs place goes.0

module _ {D Q : Type 0} (contents : D → Option Contents) (failed : D → ℕ) where
  count_at : (o : Option SinkPlace) (call : QueueCall) (olds : List (Routed (AnySink D Q))) (reply : Reply)
      (news : List (Routed (AnySink D Q))) →
      CallsAt contents failed o call olds reply news → length news ≡ length olds
  count_at None call olds reply news goes = ap length goes.1
  count_at (Some at) call olds reply news goes =
      count_by (λ o r p. CallsRouted contents failed at.sink call o r p) at.output (slice_get olds at.output) olds reply news goes

  pub calls_keep_count : (number : ℕ) (call : QueueCall) (olds : List (Routed (AnySink D Q))) (reply : Reply)
      (news : List (Routed (AnySink D Q))) → CallsIn contents failed number call olds reply news → length news ≡ length olds
  calls_keep_count number call olds reply news goes = count_at (sink_place olds 0 number) call olds reply news goes
