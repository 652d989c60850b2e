-- Calls on the queues of a stack's sinks, which are numbered through its outputs.
use Rattle.std.specs.Prelude.{◌≡◌, ◌+◌, ◌-◌, Bool, ℕ, suc, min, nat_lt, if◌then◌else◌, List, [], ◌∷◌, length, Option, Some}
use Rattle.std.specs.Prelude.{None, slice_get, slice_set}
use Rattle.tracing_appender_rolling.specs.folders.Contents.{Contents}
use Rattle.span_tracing_skeleton.specs.declared.call.Reply.{Reply}
use Rattle.span_tracing_skeleton.specs.declared.call.Reply.TheVariants.{Refused}
use Rattle.span_tracing_skeleton.specs.declared.queue_call.QueueCall.{QueueCall}
use Rattle.span_tracing_skeleton.specs.declared.refusal.Refusal.TheVariants.{UnknownSink}
use Rattle.span_tracing_outputs.specs.TraceStacks.{TraceStackValue}
use Rattle.span_tracing_outputs.specs.sinks.AnySinks.{CallsAny, holds_line}
use Rattle.span_tracing_outputs.specs.SinkLines.{some_hold}
use Rattle.span_tracing_outputs.specs.sinks.Routed.{Routed}
use Rattle.span_tracing_outputs.specs.declared.has_sinks.SinkPlace.{SinkPlace}
use Rattle.span_tracing_outputs.specs.declared.sinks.any_sink.AnySink.{AnySink}

-- how many sinks outputs have; the number stops at the greatest one
abbrev pub sinks_of : {S : Type 0} → List (Routed S) → ℕ
sinks_of [] = 0
sinks_of (o ∷ os) = min (sinks_of os + length o.sinks) 18446744073709551615

abbrev pub sinks_in : {N E F S : Type 0} → TraceStackValue N E F (Routed S) → ℕ
sinks_in x = sinks_of x.sinks

-- where the sink with a number stands: sinks are numbered through these outputs, of which the first has this place
abbrev pub sink_place : {S : Type 0} → List (Routed S) → ℕ → ℕ → Option SinkPlace
sink_place [] output number = None
sink_place (o ∷ os) output number =
    if nat_lt number (length o.sinks) then Some (record { output = output; sink = number })
    else sink_place os (suc output) (number - length o.sinks)

abbrev pub sink_of : {S : Type 0} → Option (Routed S) → ℕ → Option S
sink_of None sink = None
sink_of (Some routed) sink = slice_get routed.sinks sink

abbrev pub sink_there : {S : Type 0} → List (Routed S) → Option SinkPlace → Option S
sink_there outputs None = None
sink_there outputs (Some at) = sink_of (slice_get outputs at.output) at.sink

-- the sink with a number
abbrev pub sink_in : {S : Type 0} → List (Routed S) → ℕ → Option S
sink_in outputs number = sink_there outputs (sink_place outputs 0 number)

-- whether a line is held beside the queue of a sink
abbrev pub outputs_hold : {D Q : Type 0} → List (Routed (AnySink D Q)) → Bool
outputs_hold outputs = some_hold (λ o. some_hold (λ s. holds_line s) o.sinks) outputs

abbrev pub stack_holds : {N E F D Q : Type 0} → TraceStackValue N E F (Routed (AnySink D Q)) → Bool
stack_holds x = outputs_hold x.sinks

-- the value at a place is called, and the others stay; where there is none, that is told
abbrev pub ReachesIf : {A : Type 0} → (A → Reply → A → Type 0) → ℕ → Option A → List A → Reply → List A → Type 0
ReachesIf becomes place None xs reply after = (reply ≡ Refused UnknownSink) × (after ≡ xs)
ReachesIf {A} becomes place (Some x) xs reply after = (y : A) × becomes x reply y × (after ≡ slice_set xs place y)

abbrev pub Reaches : {A : Type 0} → (A → Reply → A → Type 0) → ℕ → List A → Reply → List A → Type 0
Reaches becomes place xs reply after = ReachesIf becomes place (slice_get xs place) xs reply after

module _ {D Q : Type 0} (contents : D → Option Contents) (failed : D → ℕ) where
  -- a sink of an output is called
  abbrev pub CallsRouted : ℕ → QueueCall → Routed (AnySink D Q) → Reply → Routed (AnySink D Q) → Type 0
  CallsRouted sink call old reply new =
      (new.route ≡ old.route) × Reaches (λ s r t. CallsAny contents failed s call r t) sink old.sinks reply new.sinks

  abbrev pub CallsAt : Option SinkPlace → QueueCall → List (Routed (AnySink D Q)) → Reply → List (Routed (AnySink D Q)) → Type 0
  CallsAt None call olds reply news = (reply ≡ Refused UnknownSink) × (news ≡ olds)
  CallsAt (Some at) call olds reply news = Reaches (λ o r p. CallsRouted at.sink call o r p) at.output olds reply news

  -- so of the sink with a number
  abbrev pub CallsIn : ℕ → QueueCall → List (Routed (AnySink D Q)) → Reply → List (Routed (AnySink D Q)) → Type 0
  CallsIn number call olds reply news = CallsAt (sink_place olds 0 number) call olds reply news

  -- the outputs themselves stay
  abbrev pub CallsStack : {N E F : Type 0} → TraceStackValue N E F (Routed (AnySink D Q)) → ℕ → QueueCall → Reply →
      TraceStackValue N E F (Routed (AnySink D Q)) → Type 0
  CallsStack x number call reply y = (y.stack ≡ x.stack) × CallsIn number call x.sinks reply y.sinks
