-- Calls on the queues of two sinks of a trace, in the one order and in the other.
use Rattle.std.proofs.Common.{◌≡◌, ◌≢◌, ◌∙◌, ◌==◌, true, false, ℕ, List, Option, Some, None, refl, sym, ap, subst}
use Rattle.std.specs.Prelude.{slice_get}
use Rattle.std.specs.Cmp.{unsigned_Decides}
use Rattle.span_tracing_outputs.proofs.ListPlaces.{by_bool}
use Rattle.span_tracing_skeleton.specs.Looking.{inner, output_in}
use Rattle.span_tracing_skeleton.specs.declared.call.Reply.{Reply}
use Rattle.span_tracing_skeleton.specs.declared.call.Reply.TheVariants.{Refused}
use Rattle.span_tracing_skeleton.specs.declared.queue_call.QueueCall.{QueueCall}
use Rattle.span_tracing_skeleton.specs.declared.refusal.Refusal.TheVariants.{UnknownSink}
use Rattle.span_tracing_skeleton.specs.declared.setting.OutputPlace.{OutputPlace}
use Rattle.span_tracing_steps.specs.SinkCalls.{DriveGives, PlaceCalled, StackCalled}
use Rattle.span_tracing_steps.specs.States.{StateValue, held_in, or_retired}
use Rattle.span_tracing_laws.specs.queue_steps.CallTurns.{CallsMayChangePlaces}
use Rattle.span_tracing_laws.specs.queue_steps.SinkPlaces.{put_where}
use Rattle.span_tracing_laws.proofs.queue_steps.Numbers.{one_number}
use Rattle.span_tracing_laws.proofs.queue_steps.Places.{Called, CalledIf, turned_apart, turned_here}
use Rattle.span_tracing_laws.proofs.queue_steps.StackPlaces.{stack_place, stacks_apart}

module _ {T : Type 0} (drives : T → ℕ → QueueCall → Reply → T → Type 0) where
  abbrev On : OutputPlace → QueueCall → T → Reply → T → Type 0
  On at call x r y = drives x at.place call r y

  abbrev AtStack : OutputPlace → QueueCall → StateValue T → Reply → StateValue T → Type 0
  AtStack at call v r w = Called (Refused UnknownSink) (stack_place at.stack) (On at call) v r w

  module _ (v : StateValue T) (at : OutputPlace) (call : QueueCall) (r : Reply) (w : StateValue T) where
    to_if : (o : Option T) (waits : Option (Option T)) → held_in v at.stack ≡ o → StackCalled drives v at call o (inner waits) r w →
        CalledIf (Refused UnknownSink) (stack_place at.stack) (On at call) (or_retired o waits) v r w
    to_if None None held goes = goes
    to_if None (Some None) held goes = goes
    to_if None (Some (Some x)) held goes =
        (goes.0, goes.1, goes.2 ∙ sym (ap (λ (o : Option T). put_where o v at.stack goes.0) held))
    to_if (Some x) waits held goes = (goes.0, goes.1, goes.2 ∙ sym (ap (λ (o : Option T). put_where o v at.stack goes.0) held))

    from_if : (o : Option T) (waits : Option (Option T)) → held_in v at.stack ≡ o →
        CalledIf (Refused UnknownSink) (stack_place at.stack) (On at call) (or_retired o waits) v r w →
        StackCalled drives v at call o (inner waits) r w
    from_if None None held goes = goes
    from_if None (Some None) held goes = goes
    from_if None (Some (Some x)) held goes = (goes.0, goes.1, goes.2 ∙ ap (λ (o : Option T). put_where o v at.stack goes.0) held)
    from_if (Some x) waits held goes = (goes.0, goes.1, goes.2 ∙ ap (λ (o : Option T). put_where o v at.stack goes.0) held)

    pub to_stack : PlaceCalled drives v (Some at) call r w → AtStack at call v r w
    to_stack goes = to_if (held_in v at.stack) (slice_get v.retired at.stack) refl goes

    from_stack : AtStack at call v r w → PlaceCalled drives v (Some at) call r w
    from_stack goes = from_if (held_in v at.stack) (slice_get v.retired at.stack) refl goes

  -- no call changes how many sinks each stack has
  counts_in : (v : StateValue T) (at : OutputPlace) (call : QueueCall) (o waits : Option T) (r : Reply) (w : StateValue T) →
      StackCalled drives v at call o waits r w → w.sinks ≡ v.sinks
  counts_in v at call None None r w goes = ap (λ (s : StateValue T). s.sinks) goes.1
  counts_in v at call None (Some x) r w goes = ap (λ (s : StateValue T). s.sinks) goes.2
  counts_in v at call (Some x) waits r w goes = ap (λ (s : StateValue T). s.sinks) goes.2

  counts_at : (v : StateValue T) (p : Option OutputPlace) (call : QueueCall) (r : Reply) (w : StateValue T) →
      PlaceCalled drives v p call r w → w.sinks ≡ v.sinks
  counts_at v None call r w goes = ap (λ (s : StateValue T). s.sinks) goes.1
  counts_at v (Some at) call r w goes = counts_in v at call (held_in v at.stack) (inner (slice_get v.retired at.stack)) r w goes

  pub counts_stay : (v : StateValue T) (sink : ℕ) (call : QueueCall) (r : Reply) (w : StateValue T) → DriveGives drives v sink call r w →
      w.sinks ≡ v.sinks
  counts_stay v sink call r w goes = counts_at v (output_in v.sinks 0 sink) call r w goes

  module _ (turns : CallsMayChangePlaces drives) (call later : QueueCall) where
    turned_at : (p q : Option OutputPlace)
        (differ : (at to : OutputPlace) → p ≡ Some at → q ≡ Some to → at.stack ≡ to.stack → at.place ≢ to.place)
        (u v w : StateValue T) (r s : Reply) → PlaceCalled drives u p call r v → PlaceCalled drives v q later s w →
        (t : StateValue T) × PlaceCalled drives u q later s t × PlaceCalled drives t p call r w
    turned_at None q differ u v w r s one two =
        (w, subst (λ (k : StateValue T). PlaceCalled drives k q later s w) one.1 two, (one.0, refl))
    turned_at (Some at) None differ u v w r s one two =
        (u, (two.0, refl), subst (λ (k : StateValue T). PlaceCalled drives u (Some at) call r k) (sym two.1) one)
    turned_at (Some at) (Some to) differ u v w r s one two = back (by_bool (to.stack == at.stack) here apart) where
      first : AtStack at call u r v
      first = to_stack u at call r v one

      second : AtStack to later v s w
      second = to_stack v to later s w two

      here : (to.stack == at.stack) ≡ true → (t : StateValue T) × AtStack to later u s t × AtStack at call t r w
      here is =
          let same : to.stack ≡ at.stack = (unsigned_Decides to.stack at.stack).0 is in
          let places : at.place ≢ to.place = differ at to refl refl (sym same) in
          let moved : Called (Refused UnknownSink) (stack_place at.stack) (On to later) v s w =
          subst (λ (k : ℕ). Called (Refused UnknownSink) (stack_place k) (On to later) v s w) same second in
          let turn = turned_here (Refused UnknownSink) (stack_place at.stack) (On at call) (On to later)
          (λ x y z a b go come. turns.each x y z at.place to.place call later a b places go come) u v w r s first moved in
          (turn.0, subst (λ (k : ℕ). Called (Refused UnknownSink) (stack_place k) (On to later) u s turn.0) (sym same) turn.1, turn.2)

      apart : (to.stack == at.stack) ≡ false → (t : StateValue T) × AtStack to later u s t × AtStack at call t r w
      apart is = turned_apart (Refused UnknownSink) (stack_place at.stack) (stack_place to.stack) (stacks_apart at.stack to.stack is)
          (On at call) (On to later) u v w r s first second

      back : ((t : StateValue T) × AtStack to later u s t × AtStack at call t r w) →
          (t : StateValue T) × PlaceCalled drives u (Some to) later s t × PlaceCalled drives t (Some at) call r w
      back (t, came, went) = (t, from_stack u to later s t came, from_stack t at call r w went)

  -- where calls on the sinks of one stack may change places, those on all of a trace may
  pub traces_turn : CallsMayChangePlaces drives → CallsMayChangePlaces (DriveGives drives)
  traces_turn turns = record {
    each = λ u v w one other call later r s differ first second.
        let counts = counts_stay u one call r v first in
        let two = subst (λ (ks : List ℕ). PlaceCalled drives v (output_in ks 0 other) later s w) counts second in
        let turn = turned_at turns call later (output_in u.sinks 0 one) (output_in u.sinks 0 other)
        (λ at to is too stacks places. differ (one_number u.sinks 0 one other at to is too stacks places)) u v w r s first two in
        let stays : turn.0.sinks ≡ u.sinks = counts_at u (output_in u.sinks 0 other) later s turn.0 turn.1 in (
          turn.0,
          turn.1,
          subst (λ (ks : List ℕ). PlaceCalled drives turn.0 (output_in ks 0 one) call r w) (sym stays) turn.2,
        );
  }
