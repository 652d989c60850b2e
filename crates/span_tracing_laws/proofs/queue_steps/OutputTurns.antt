-- Calls on the queues of two sinks of a stack, in the one order and in the other.
use Rattle.std.proofs.Common.{◌≡◌, ◌≢◌, ◌∙◌, ◌-◌, ◌==◌, Bool, true, false, ℕ, suc, List, [], ◌∷◌, length, map, Option, Some, None, refl}
use Rattle.std.proofs.Common.{sym, ap, subst}
use Rattle.std.specs.Prelude.{if◌then◌else◌, nat_lt, slice_get}
use Rattle.std.specs.Cmp.{unsigned_Decides}
use Rattle.std.proofs.lemmas.Bool.{ne_eqb}
use Rattle.std.proofs.lemmas.List.{length-set}
use Rattle.tracing_appender_rolling.specs.folders.Contents.{Contents}
use Rattle.span_tracing_outputs.specs.sinks.AnySinks.{CallsAny}
use Rattle.span_tracing_outputs.specs.sinks.Routed.{Routed}
use Rattle.span_tracing_outputs.specs.sinks.SinkCalls.{CallsAt, CallsIn, CallsRouted, Reaches, ReachesIf, sink_place}
use Rattle.span_tracing_outputs.specs.declared.has_sinks.SinkPlace.{SinkPlace}
use Rattle.span_tracing_outputs.specs.declared.sinks.any_sink.AnySink.{AnySink}
use Rattle.span_tracing_outputs.proofs.ListPlaces.{by_bool, same_set}
use Rattle.span_tracing_skeleton.specs.Looking.{output_in}
use Rattle.span_tracing_skeleton.specs.declared.call.Reply.{Reply}
use Rattle.span_tracing_skeleton.specs.declared.call.Reply.TheVariants.{Refused}
use Rattle.span_tracing_skeleton.specs.declared.queue_call.QueueCall.{QueueCall}
use Rattle.span_tracing_skeleton.specs.declared.refusal.Refusal.TheVariants.{UnknownSink}
use Rattle.span_tracing_skeleton.specs.declared.setting.OutputPlace.{OutputPlace}
use Rattle.span_tracing_laws.specs.runs.DrivenSinks.{drives}
use Rattle.span_tracing_laws.specs.queue_steps.CallTurns.{CallsMayChangePlaces}
use Rattle.span_tracing_laws.proofs.queue_steps.Numbers.{one_number, place_here, place_later}
use Rattle.span_tracing_laws.proofs.queue_steps.Places.{Called, CalledIf, slot, slots_apart, turned_apart, turned_here}

-- a place among outputs, as one among stacks
abbrev pub as_place : Option OutputPlace → Option SinkPlace
as_place None = None
as_place (Some at) = Some (record { output = at.stack; sink = at.place })

module _ {S : Type 0} where
  abbrev pub count : Routed S → ℕ
  count o = length o.sinks

  pub place_as : (os : List (Routed S)) (first number : ℕ) → sink_place os first number ≡ as_place (output_in (map count os) first number)
  place_as [] first number = refl
  place_as (o ∷ os) first number =
      by_bool (nat_lt number (length o.sinks))
      (λ here. ap (λ (b : Bool). if b then Some (record { output = first; sink = number })
      else sink_place os (suc first) (number - length o.sinks)) here ∙
      sym (ap as_place (place_here (count o) (map count os) first number here)))
      (λ later. ap (λ (b : Bool). if b then Some (record { output = first; sink = number })
      else sink_place os (suc first) (number - length o.sinks)) later ∙ place_as os (suc first) (number - length o.sinks) ∙
      sym (ap as_place (place_later (count o) (map count os) first number later)))

module _ {A : Type 0} (becomes : A → Reply → A → Type 0) (place : ℕ) (xs : List A) (r : Reply) (ys : List A) where
  called_if : (o : Option A) → ReachesIf becomes place o xs r ys → CalledIf (Refused UnknownSink) (slot place) becomes o xs r ys
  called_if None goes = goes
  called_if (Some x) goes = goes

  reached_if : (o : Option A) → CalledIf (Refused UnknownSink) (slot place) becomes o xs r ys → ReachesIf becomes place o xs r ys
  reached_if None goes = goes
  reached_if (Some x) goes = goes

  to_slot : Reaches becomes place xs r ys → Called (Refused UnknownSink) (slot place) becomes xs r ys
  to_slot goes = called_if (slice_get xs place) goes

  from_slot : Called (Refused UnknownSink) (slot place) becomes xs r ys → Reaches becomes place xs r ys
  from_slot goes = reached_if (slice_get xs place) goes

module _ {D : Type 0} (Q : Type 0) (contents : D → Option Contents) (failed : D → ℕ) where
  abbrev Output : Type 0
  Output = Routed (AnySink D Q)

  abbrev OnSink : QueueCall → AnySink D Q → Reply → AnySink D Q → Type 0
  OnSink call s r t = CallsAny contents failed s call r t

  abbrev OnOutput : ℕ → QueueCall → Output → Reply → Output → Type 0
  OnOutput sink call o r p = CallsRouted contents failed sink call o r p

  routed_turn : (i j : ℕ) (call later : QueueCall) → (j == i) ≡ false → (x y z : Output) (r s : Reply) → OnOutput i call x r y →
      OnOutput j later y s z → (t : Output) × OnOutput j later x s t × OnOutput i call t r z
  routed_turn i j call later apart x y z r s one two =
      let first : Called (Refused UnknownSink) (slot i) (OnSink call) x.sinks r y.sinks = to_slot (OnSink call) i x.sinks r y.sinks one.1 in
      let second : Called (Refused UnknownSink) (slot j) (OnSink later) y.sinks s z.sinks =
      to_slot (OnSink later) j y.sinks s z.sinks two.1 in
      let turn = turned_apart (Refused UnknownSink) (slot i) (slot j) (slots_apart i j apart) (OnSink call) (OnSink later) x.sinks y.sinks
      z.sinks r s first second in (
        record { route = x.route; sinks = turn.0 },
        (refl, from_slot (OnSink later) j x.sinks s turn.0 turn.1),
        (two.0 ∙ one.0, from_slot (OnSink call) i turn.0 r z.sinks turn.2),
      )

  -- no call changes how many sinks each output has
  sinks_count : (sink : ℕ) (call : QueueCall) (q : Option (AnySink D Q)) (olds : List (AnySink D Q)) (r : Reply) (news : List (AnySink D Q)) →
      ReachesIf (OnSink call) sink q olds r news → length news ≡ length olds
  sinks_count sink call None olds r news goes = ap length goes.1
  sinks_count sink call (Some s) olds r news goes = ap length goes.2 ∙ length-set olds sink goes.0

  called_counts : (at : SinkPlace) (call : QueueCall) (q : Option Output) (olds : List Output) (r : Reply) (news : List Output) →
      slice_get olds at.output ≡ q → ReachesIf (OnOutput at.sink call) at.output q olds r news → map count news ≡ map count olds
  called_counts at call None olds r news there goes = ap (map count) goes.1
  called_counts at call (Some o) olds r news there goes =
      ap (map count) goes.2 ∙
      same_set count olds at.output o goes.0 there
      (sinks_count at.sink call (slice_get o.sinks at.sink) o.sinks r goes.0.sinks goes.1.1)

  pub counts_at : (q : Option SinkPlace) (call : QueueCall) (olds : List Output) (r : Reply) (news : List Output) →
      CallsAt contents failed q call olds r news → map count news ≡ map count olds
  counts_at None call olds r news goes = ap (map count) goes.1
  counts_at (Some at) call olds r news goes = called_counts at call (slice_get olds at.output) olds r news refl goes

  abbrev CallsThere : Option OutputPlace → QueueCall → List Output → Reply → List Output → Type 0
  CallsThere p call olds r news = CallsAt contents failed (as_place p) call olds r news

  module _ (call later : QueueCall) where
    turned_at : (p q : Option OutputPlace)
        (differ : (at to : OutputPlace) → p ≡ Some at → q ≡ Some to → at.stack ≡ to.stack → at.place ≢ to.place)
        (u v w : List Output) (r s : Reply) → CallsThere p call u r v → CallsThere q later v s w →
        (t : List Output) × CallsThere q later u s t × CallsThere p call t r w
    turned_at None q differ u v w r s one two =
        (w, subst (λ (k : List Output). CallsThere q later k s w) one.1 two, (one.0, refl))
    turned_at (Some at) None differ u v w r s one two =
        (u, (two.0, refl), subst (λ (k : List Output). CallsThere (Some at) call u r k) (sym two.1) one)
    turned_at (Some at) (Some to) differ u v w r s one two = back (by_bool (to.stack == at.stack) here apart) where
      first : Called (Refused UnknownSink) (slot at.stack) (OnOutput at.place call) u r v
      first = to_slot (OnOutput at.place call) at.stack u r v one

      second : Called (Refused UnknownSink) (slot to.stack) (OnOutput to.place later) v s w
      second = to_slot (OnOutput to.place later) to.stack v s w two

      here : (to.stack == at.stack) ≡ true → (t : List Output) ×
          Called (Refused UnknownSink) (slot to.stack) (OnOutput to.place later) u s t ×
          Called (Refused UnknownSink) (slot at.stack) (OnOutput at.place call) t r w
      here is =
          let same : to.stack ≡ at.stack = (unsigned_Decides to.stack at.stack).0 is in
          let places : at.place ≢ to.place = differ at to refl refl (sym same) in
          let apart : (to.place == at.place) ≡ false = ne_eqb to.place at.place (λ e. places (sym e)) in
          let moved : Called (Refused UnknownSink) (slot at.stack) (OnOutput to.place later) v s w =
          subst (λ (k : ℕ). Called (Refused UnknownSink) (slot k) (OnOutput to.place later) v s w) same second in
          let turn = turned_here (Refused UnknownSink) (slot at.stack) (OnOutput at.place call) (OnOutput to.place later)
          (λ x y z a b go come. routed_turn at.place to.place call later apart x y z a b go come) u v w r s first moved in (
            turn.0,
            subst (λ (k : ℕ). Called (Refused UnknownSink) (slot k) (OnOutput to.place later) u s turn.0) (sym same) turn.1,
            turn.2,
          )

      apart : (to.stack == at.stack) ≡ false → (t : List Output) ×
          Called (Refused UnknownSink) (slot to.stack) (OnOutput to.place later) u s t ×
          Called (Refused UnknownSink) (slot at.stack) (OnOutput at.place call) t r w
      apart is = turned_apart (Refused UnknownSink) (slot at.stack) (slot to.stack) (slots_apart at.stack to.stack is)
          (OnOutput at.place call) (OnOutput to.place later) u v w r s first second

      back : ((t : List Output) × Called (Refused UnknownSink) (slot to.stack) (OnOutput to.place later) u s t ×
          Called (Refused UnknownSink) (slot at.stack) (OnOutput at.place call) t r w) →
          (t : List Output) × CallsThere (Some to) later u s t × CallsThere (Some at) call t r w
      back (t, came, went) =
          (t, from_slot (OnOutput to.place later) to.stack u s t came, from_slot (OnOutput at.place call) at.stack t r w went)

  -- the place by the counts
  to_there : (number : ℕ) (call : QueueCall) (olds : List Output) (r : Reply) (news : List Output) →
      CallsIn contents failed number call olds r news → CallsThere (output_in (map count olds) 0 number) call olds r news
  to_there number call olds r news goes =
      subst (λ (p : Option SinkPlace). CallsAt contents failed p call olds r news) (place_as olds 0 number) goes

  from_there : (number : ℕ) (call : QueueCall) (olds : List Output) (r : Reply) (news : List Output) →
      CallsThere (output_in (map count olds) 0 number) call olds r news → CallsIn contents failed number call olds r news
  from_there number call olds r news goes =
      subst (λ (p : Option SinkPlace). CallsAt contents failed p call olds r news) (sym (place_as olds 0 number)) goes

  outputs_turn : CallsMayChangePlaces {T = List Output} (λ olds number call r news. CallsIn contents failed number call olds r news)
  outputs_turn = record {
    each = λ u v w one other call later r s differ first second.
        let stays : map count v ≡ map count u = counts_at (sink_place u 0 one) call u r v first in
        let start = to_there one call u r v first in
        let next = subst (λ (ks : List ℕ). CallsThere (output_in ks 0 other) later v s w) stays (to_there other later v s w second) in
        let turn = turned_at call later (output_in (map count u) 0 one) (output_in (map count u) 0 other)
        (λ at to is too stacks places. differ (one_number (map count u) 0 one other at to is too stacks places)) u v w r s start next in
        let back : CallsIn contents failed other later u s turn.0 = from_there other later u s turn.0 turn.1 in
        let same : map count turn.0 ≡ map count u = counts_at (sink_place u 0 other) later u s turn.0 back in (
          turn.0,
          back,
          from_there one call turn.0 r w (subst (λ (ks : List ℕ). CallsThere (output_in ks 0 one) call turn.0 r w) (sym same) turn.2),
        );
  }

  -- so may calls on the sinks of a stack
  pub stacks_turn : {N E F : Type 0} → CallsMayChangePlaces (drives (CallsIn {Q = Q} contents failed) {N = N} {E = E} {F = F})
  stacks_turn = record {
    each = λ u v w one other call later r s differ first second.
        let turn = outputs_turn.each u.sinks v.sinks w.sinks one other call later r s differ first.1 second.1 in
        (record { stack = u.stack; sinks = turn.0 }, (refl, turn.1), (second.0 ∙ first.0, turn.2));
  }
