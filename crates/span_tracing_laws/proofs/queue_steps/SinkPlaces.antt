-- The sink with a number, called and put in its place.
use Rattle.std.proofs.Common.{◌≡◌, ◌∙◌, ℕ, List, map, Option, Some, None, refl, sym, ap, subst}
use Rattle.std.specs.Prelude.{slice_get, slice_set}
use Rattle.std.proofs.lemmas.List.{length-set}
use Rattle.tracing_appender_rolling.specs.folders.Contents.{Contents}
use Rattle.span_tracing_outputs.specs.TraceStacks.{TraceStackValue}
use Rattle.span_tracing_outputs.specs.sinks.AnySinks.{CallsAny}
use Rattle.span_tracing_outputs.specs.sinks.Routed.{Routed}
use Rattle.span_tracing_outputs.specs.sinks.SinkCalls.{CallsAt, CallsIn, CallsRouted, ReachesIf, sink_in, sink_of, sink_place}
use Rattle.span_tracing_outputs.specs.sinks.SinkCalls.{sink_there}
use Rattle.span_tracing_outputs.specs.declared.has_sinks.SinkPlace.{SinkPlace}
use Rattle.span_tracing_outputs.specs.declared.sinks.any_sink.AnySink.{AnySink}
use Rattle.span_tracing_outputs.proofs.ListPlaces.{same_set, set_own, stands_within}
use Rattle.span_tracing_skeleton.specs.Looking.{output_in}
use Rattle.span_tracing_skeleton.specs.declared.call.Reply.{Reply}
use Rattle.span_tracing_skeleton.specs.declared.call.Reply.TheVariants.{Refused}
use Rattle.span_tracing_skeleton.specs.declared.queue_call.QueueCall.{QueueCall}
use Rattle.span_tracing_skeleton.specs.declared.refusal.Refusal.TheVariants.{UnknownSink}
use Rattle.span_tracing_skeleton.specs.declared.setting.OutputPlace.{OutputPlace}
use Rattle.span_tracing_steps.specs.SinkCalls.{DriveGives, PlaceCalled}
use Rattle.span_tracing_steps.specs.States.{held_in, stack_in}
use Rattle.span_tracing_laws.specs.runs.DrivenSinks.{drives}
use Rattle.span_tracing_laws.specs.runs.Files.{FileTrace}
use Rattle.span_tracing_laws.specs.runs.StepFollows.{Traced}
use Rattle.span_tracing_laws.specs.queue_steps.SinkPlaces.{changed_where, changed_with, put_at, put_sink, put_stack, put_there, put_where}
use Rattle.span_tracing_laws.specs.queue_steps.SinkPlaces.{sink_at, sink_where, sink_with, with_sink}
use Rattle.span_tracing_laws.proofs.queue_steps.OutputTurns.{as_place, count, place_as}
use Rattle.span_tracing_laws.proofs.queue_steps.Places.{CalledIf, set_again}
use Rattle.span_tracing_laws.proofs.queue_steps.StackPlaces.{again_if, stack_own, stack_place}
use Rattle.span_tracing_laws.proofs.queue_steps.TraceTurns.{to_stack}

none_is : {A : Type 0} {x : A} → None ≡ Some x → ⊥
none_is e = cc

-- a stack whose outputs have several sinks each, and one whose lines go to files
abbrev Filed : Type 0 → Type 0 → Type 0 → Type 0 → Type 0
Filed N E F S = TraceStackValue N E F (Routed S)

abbrev FileStack : Type 0 → Type 0 → Type 0 → Type 0 → Type 0 → Type 0
FileStack N E F D Q = Filed N E F (AnySink D Q)

module _ {S : Type 0} where
  -- outputs have as many sinks as before
  counts_there : (q : Option (Routed S)) (os : List (Routed S)) (at : SinkPlace) (t : S) → slice_get os at.output ≡ q →
      map count (put_there q os at t) ≡ map count os
  counts_there None os at t there = refl
  counts_there (Some o) os at t there =
      same_set count os at.output o (record o { sinks = slice_set o.sinks at.sink t }) there (length-set o.sinks at.sink t)

  counts_put : (p : Option SinkPlace) (os : List (Routed S)) (t : S) → map count (put_at p os t) ≡ map count os
  counts_put None os t = refl
  counts_put (Some at) os t = counts_there (slice_get os at.output) os at t refl

  pub place_stays : (os : List (Routed S)) (number other : ℕ) (t : S) →
      sink_place (put_sink os number t) 0 other ≡ sink_place os 0 other
  place_stays os number other t =
      place_as (put_sink os number t) 0 other ∙
      ap (λ (ks : List ℕ). as_place (output_in ks 0 other)) (counts_put (sink_place os 0 number) os t) ∙ sym (place_as os 0 other)

  -- the output is there, with the sink
  pub output_own : (os : List (Routed S)) (at : SinkPlace) (o : Routed S) (t : S) → slice_get os at.output ≡ Some o →
      slice_get (put_there (Some o) os at t) at.output ≡ Some (record o { sinks = slice_set o.sinks at.sink t })
  output_own os at o t there =
      set_own os at.output (record o { sinks = slice_set o.sinks at.sink t }) (stands_within os at.output o there)

  own_there : (q : Option (Routed S)) (os : List (Routed S)) (at : SinkPlace) (s t : S) → slice_get os at.output ≡ q →
      sink_of q at.sink ≡ Some s → sink_of (slice_get (put_there q os at t) at.output) at.sink ≡ Some t
  own_there None os at s t there its = absurd (none_is its)
  own_there (Some o) os at s t there its =
      ap (λ (q : Option (Routed S)). sink_of q at.sink) (output_own os at o t there) ∙
      set_own o.sinks at.sink t (stands_within o.sinks at.sink s its)

  own_at : (p : Option SinkPlace) (os : List (Routed S)) (s t : S) → sink_there os p ≡ Some s → sink_there (put_at p os t) p ≡ Some t
  own_at None os s t its = absurd (none_is its)
  own_at (Some at) os s t its = own_there (slice_get os at.output) os at s t refl its

  pub sink_own : (os : List (Routed S)) (number : ℕ) (s t : S) → sink_in os number ≡ Some s → sink_in (put_sink os number t) number ≡ Some t
  sink_own os number s t its =
      ap (λ (p : Option SinkPlace). sink_there (put_sink os number t) p) (place_stays os number number t) ∙
      own_at (sink_place os 0 number) os s t its

  again_there : (q : Option (Routed S)) (os : List (Routed S)) (at : SinkPlace) (s y z : S) → slice_get os at.output ≡ q →
      sink_of q at.sink ≡ Some s →
      put_there (slice_get (put_there q os at y) at.output) (put_there q os at y) at z ≡ put_there q os at z
  again_there None os at s y z there its = absurd (none_is its)
  again_there (Some o) os at s y z there its =
      ap (λ (q : Option (Routed S)). put_there q (put_there (Some o) os at y) at z) (output_own os at o y there) ∙
      set_again os at.output (record o { sinks = slice_set o.sinks at.sink y })
      (record o { sinks = slice_set (slice_set o.sinks at.sink y) at.sink z }) ∙
      ap (λ (ss : List S). slice_set os at.output (record o { sinks = ss })) (set_again o.sinks at.sink y z)

  again_at : (p : Option SinkPlace) (os : List (Routed S)) (s y z : S) → sink_there os p ≡ Some s →
      put_at p (put_at p os y) z ≡ put_at p os z
  again_at None os s y z its = absurd (none_is its)
  again_at (Some at) os s y z its = again_there (slice_get os at.output) os at s y z refl its

  pub sink_again : (os : List (Routed S)) (number : ℕ) (s y z : S) → sink_in os number ≡ Some s →
      put_sink (put_sink os number y) number z ≡ put_sink os number z
  sink_again os number s y z its =
      ap (λ (p : Option SinkPlace). put_at p (put_sink os number y) z) (place_stays os number number y) ∙
      again_at (sink_place os 0 number) os s y z its

module _ {N E F S : Type 0} where
  abbrev with_its : Filed N E F S → ℕ → S → Filed N E F S
  with_its x number t = record x { sinks = put_sink x.sinks number t }

  counts_where : (o : Option (Filed N E F S)) (v : Traced N E F (Routed S)) (stack : ℕ) (y : Filed N E F S) →
      (put_where o v stack y).sinks ≡ v.sinks
  counts_where None v stack y = refl
  counts_where (Some x) v stack y = refl

  counts_with : (o : Option (Filed N E F S)) (v : Traced N E F (Routed S)) (at : OutputPlace) (t : S) →
      (changed_with o v at t).sinks ≡ v.sinks
  counts_with None v at t = refl
  counts_with (Some x) v at t = counts_where (held_in v at.stack) v at.stack (with_its x at.place t)

  pub counts_stay : (p : Option OutputPlace) (v : Traced N E F (Routed S)) (t : S) → (changed_where p v t).sinks ≡ v.sinks
  counts_stay None v t = refl
  counts_stay (Some at) v t = counts_with (stack_in v at.stack) v at t

  own_with : (o : Option (Filed N E F S)) (v : Traced N E F (Routed S)) (at : OutputPlace) (s t : S) → stack_in v at.stack ≡ o →
      sink_with o at.place ≡ Some s → sink_with (stack_in (changed_with o v at t) at.stack) at.place ≡ Some t
  own_with None v at s t there its = absurd (none_is its)
  own_with (Some x) v at s t there its =
      ap (λ (o : Option (Filed N E F S)). sink_with o at.place) (stack_own v at.stack x (with_its x at.place t) there) ∙
      sink_own x.sinks at.place s t its

  own_where : (p : Option OutputPlace) (v : Traced N E F (Routed S)) (s t : S) → sink_where p v ≡ Some s →
      sink_where p (changed_where p v t) ≡ Some t
  own_where None v s t its = absurd (none_is its)
  own_where (Some at) v s t its = own_with (stack_in v at.stack) v at s t refl its

  -- the sink is there
  pub put_own : (v : Traced N E F (Routed S)) (number : ℕ) (s t : S) → sink_at v number ≡ Some s →
      sink_at (with_sink v number t) number ≡ Some t
  put_own v number s t its =
      ap (λ (ks : List ℕ). sink_where (output_in ks 0 number) (with_sink v number t)) (counts_stay (output_in v.sinks 0 number) v t) ∙
      own_where (output_in v.sinks 0 number) v s t its

  again_with : (o : Option (Filed N E F S)) (v : Traced N E F (Routed S)) (at : OutputPlace) (s y z : S) → stack_in v at.stack ≡ o →
      sink_with o at.place ≡ Some s →
      changed_with (stack_in (changed_with o v at y) at.stack) (changed_with o v at y) at z ≡ changed_with o v at z
  again_with None v at s y z there its = absurd (none_is its)
  again_with (Some x) v at s y z there its =
      ap (λ (o : Option (Filed N E F S)). changed_with o (changed_with (Some x) v at y) at z)
      (stack_own v at.stack x (with_its x at.place y) there) ∙
      again_if v at.stack (with_its x at.place y) (with_its (with_its x at.place y) at.place z) (held_in v at.stack) refl ∙
      ap (λ (os : List (Routed S)). put_stack v at.stack (record x { sinks = os })) (sink_again x.sinks at.place s y z its)

  again_where : (p : Option OutputPlace) (v : Traced N E F (Routed S)) (s y z : S) → sink_where p v ≡ Some s →
      changed_where p (changed_where p v y) z ≡ changed_where p v z
  again_where None v s y z its = absurd (none_is its)
  again_where (Some at) v s y z its = again_with (stack_in v at.stack) v at s y z refl its

  -- of two sinks that are put in its place the last one stays
  pub put_again : (v : Traced N E F (Routed S)) (number : ℕ) (s y z : S) → sink_at v number ≡ Some s →
      with_sink (with_sink v number y) number z ≡ with_sink v number z
  put_again v number s y z its =
      ap (λ (ks : List ℕ). changed_where (output_in ks 0 number) (with_sink v number y) z)
      (counts_stay (output_in v.sinks 0 number) v y) ∙
      again_where (output_in v.sinks 0 number) v s y z its

module _ {D : Type 0} (Q : Type 0) (contents : D → Option Contents) (failed : D → ℕ) where
  routed_same : {S : Type 0} (p o : Routed S) (ss : List S) → p.route ≡ o.route → p.sinks ≡ ss → p ≡ record o { sinks = ss }
  routed_same p o ss routes sinks = λ i. record { route = routes i; sinks = sinks i }

  called_there : (q : Option (Routed (AnySink D Q))) (at : SinkPlace) (call : QueueCall) (olds : List (Routed (AnySink D Q))) (r : Reply)
      (news : List (Routed (AnySink D Q))) (s : AnySink D Q) →
      ReachesIf (λ o r p. CallsRouted contents failed at.sink call o r p) at.output q olds r news → sink_of q at.sink ≡ Some s →
      (t : AnySink D Q) × CallsAny contents failed s call r t × (news ≡ put_there q olds at t)
  called_there None at call olds r news s goes its = absurd (none_is its)
  called_there (Some o) at call olds r news s (p, (routes, reaches), is) its =
      let its_call : ReachesIf (λ s r t. CallsAny contents failed s call r t) at.sink (Some s) o.sinks r p.sinks =
      subst (λ (q : Option (AnySink D Q)). ReachesIf (λ s r t. CallsAny contents failed s call r t) at.sink q o.sinks r p.sinks) its
      reaches in (
        its_call.0,
        its_call.1,
        is ∙ ap (λ (k : Routed (AnySink D Q)). slice_set olds at.output k)
            (routed_same p o (slice_set o.sinks at.sink its_call.0) routes its_call.2),
      )

  called_at : (q : Option SinkPlace) (call : QueueCall) (olds : List (Routed (AnySink D Q))) (r : Reply)
      (news : List (Routed (AnySink D Q))) (s : AnySink D Q) → CallsAt contents failed q call olds r news → sink_there olds q ≡ Some s →
      (t : AnySink D Q) × CallsAny contents failed s call r t × (news ≡ put_at q olds t)
  called_at None call olds r news s goes its = absurd (none_is its)
  called_at (Some at) call olds r news s goes its = called_there (slice_get olds at.output) at call olds r news s goes its

  module _ {N E F : Type 0} where
    stack_same : (y x : FileStack N E F D Q) (os : List (Routed (AnySink D Q))) → y.stack ≡ x.stack → y.sinks ≡ os →
        y ≡ record x { sinks = os }
    stack_same y x os stacks sinks = λ i. record { stack = stacks i; sinks = sinks i }

    called_with : (o : Option (FileStack N E F D Q)) (v : FileTrace N E F D Q) (at : OutputPlace) (call : QueueCall) (r : Reply)
        (w : FileTrace N E F D Q) (s : AnySink D Q) →
        CalledIf (Refused UnknownSink) (stack_place at.stack) (λ x r y. drives (CallsIn contents failed) x at.place call r y) o v r w →
        sink_with o at.place ≡ Some s → (t : AnySink D Q) × CallsAny contents failed s call r t × (w ≡ changed_with o v at t)
    called_with None v at call r w s goes its = absurd (none_is its)
    called_with (Some x) v at call r w s (y, (stacks, calls), is) its =
        let its_call = called_at (sink_place x.sinks 0 at.place) call x.sinks r y.sinks s calls its in (
          its_call.0,
          its_call.1,
          is ∙ ap (λ (k : FileStack N E F D Q). put_stack v at.stack k)
              (stack_same y x (put_sink x.sinks at.place its_call.0) stacks its_call.2),
        )

    called_where : (p : Option OutputPlace) (v : FileTrace N E F D Q) (call : QueueCall) (r : Reply) (w : FileTrace N E F D Q) (s : AnySink D Q) →
        PlaceCalled (drives (CallsIn contents failed)) v p call r w → sink_where p v ≡ Some s →
        (t : AnySink D Q) × CallsAny contents failed s call r t × (w ≡ changed_where p v t)
    called_where None v call r w s goes its = absurd (none_is its)
    called_where (Some at) v call r w s goes its =
        called_with (stack_in v at.stack) v at call r w s (to_stack (drives (CallsIn contents failed)) v at call r w goes) its

    -- a call on the queue of a sink that is there changes it alone
    pub sink_called : (v : FileTrace N E F D Q) (number : ℕ) (call : QueueCall) (r : Reply) (w : FileTrace N E F D Q) (s : AnySink D Q) →
        DriveGives (drives (CallsIn contents failed)) v number call r w → sink_at v number ≡ Some s →
        (t : AnySink D Q) × CallsAny contents failed s call r t × (w ≡ with_sink v number t)
    sink_called v number call r w s goes its = called_where (output_in v.sinks 0 number) v call r w s goes its
