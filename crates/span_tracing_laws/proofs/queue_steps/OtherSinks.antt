-- The other sinks, where one gets another value.
use Rattle.std.proofs.Common.{◌≡◌, ◌≢◌, ◌∙◌, ◌==◌, true, false, ℕ, List, map, Option, Some, None, refl, sym, ap}
use Rattle.std.specs.Prelude.{slice_get, slice_set}
use Rattle.std.specs.Cmp.{unsigned_Decides}
use Rattle.std.proofs.lemmas.Bool.{ne_eqb}
use Rattle.span_tracing_outputs.specs.TraceStacks.{TraceStackValue}
use Rattle.span_tracing_outputs.specs.sinks.Routed.{Routed}
use Rattle.span_tracing_outputs.specs.sinks.SinkCalls.{sink_in, sink_of, sink_there}
use Rattle.span_tracing_outputs.specs.declared.has_sinks.SinkPlace.{SinkPlace}
use Rattle.span_tracing_outputs.proofs.ListPlaces.{by_bool, set_other}
use Rattle.span_tracing_skeleton.specs.Looking.{output_in}
use Rattle.span_tracing_skeleton.specs.declared.setting.OutputPlace.{OutputPlace}
use Rattle.span_tracing_steps.specs.States.{held_in, stack_in}
use Rattle.span_tracing_laws.specs.runs.StepFollows.{Traced}
use Rattle.span_tracing_laws.specs.queue_steps.SinkPlaces.{changed_where, changed_with, put_at, put_sink, put_there, sink_at}
use Rattle.span_tracing_laws.specs.queue_steps.SinkPlaces.{sink_where, sink_with, with_sink}
use Rattle.span_tracing_laws.proofs.queue_steps.Numbers.{one_number}
use Rattle.span_tracing_laws.proofs.queue_steps.OutputTurns.{as_place, count, place_as}
use Rattle.span_tracing_laws.proofs.queue_steps.SinkPlaces.{counts_stay, output_own, place_stays}
use Rattle.span_tracing_laws.proofs.queue_steps.StackPlaces.{stack_own, stays_if}

module _ {S : Type 0} where
  -- the sink at another place of an output, or of another output
  there_else : (q : Option (Routed S)) (os : List (Routed S)) (at to : SinkPlace) (t : S) → slice_get os at.output ≡ q →
      (to.output ≡ at.output → (to.sink == at.sink) ≡ false) →
      sink_of (slice_get (put_there q os at t) to.output) to.sink ≡ sink_of (slice_get os to.output) to.sink
  there_else None os at to t there differ = refl
  there_else (Some o) os at to t there differ = by_bool (to.output == at.output) here apart where
    here : (to.output == at.output) ≡ true →
        sink_of (slice_get (put_there (Some o) os at t) to.output) to.sink ≡ sink_of (slice_get os to.output) to.sink
    here is =
        let same : to.output ≡ at.output = (unsigned_Decides to.output at.output).0 is in
        ap (λ (k : ℕ). sink_of (slice_get (put_there (Some o) os at t) k) to.sink) same ∙
        ap (λ (q : Option (Routed S)). sink_of q to.sink) (output_own os at o t there) ∙
        set_other o.sinks at.sink to.sink t (differ same) ∙ sym (ap (λ (q : Option (Routed S)). sink_of q to.sink) there) ∙
        sym (ap (λ (k : ℕ). sink_of (slice_get os k) to.sink) same)

    apart : (to.output == at.output) ≡ false →
        sink_of (slice_get (put_there (Some o) os at t) to.output) to.sink ≡ sink_of (slice_get os to.output) to.sink
    apart is =
        ap (λ (q : Option (Routed S)). sink_of q to.sink)
        (set_other os at.output to.output (record o { sinks = slice_set o.sinks at.sink t }) is)

  place_else : (p q : Option OutputPlace) (os : List (Routed S)) (t : S)
      (differ : (at to : OutputPlace) → p ≡ Some at → q ≡ Some to → at.stack ≡ to.stack → at.place ≢ to.place) →
      sink_there (put_at (as_place p) os t) (as_place q) ≡ sink_there os (as_place q)
  place_else None q os t differ = refl
  place_else (Some at) None os t differ = refl
  place_else (Some at) (Some to) os t differ =
      there_else (slice_get os at.stack) os (record { output = at.stack; sink = at.place })
      (record { output = to.stack; sink = to.place }) t refl
      (λ same. ne_eqb to.place at.place (λ e. differ at to refl refl (sym same) (sym e)))

  sink_else : (os : List (Routed S)) (number other : ℕ) (t : S) → number ≢ other → sink_in (put_sink os number t) other ≡ sink_in os other
  sink_else os number other t apart =
      ap (λ (p : Option SinkPlace). sink_there (put_sink os number t) p) (place_stays os number other t ∙ place_as os 0 other) ∙
      ap (λ (p : Option SinkPlace). sink_there (put_at p os t) (as_place (output_in (map count os) 0 other))) (place_as os 0 number) ∙
      place_else (output_in (map count os) 0 number) (output_in (map count os) 0 other) os t
      (λ at to is too stacks places. apart (one_number (map count os) 0 number other at to is too stacks places)) ∙
      sym (ap (λ (p : Option SinkPlace). sink_there os p) (place_as os 0 other))

module _ {N E F S : Type 0} where
  with_else : (o : Option (TraceStackValue N E F (Routed S))) (v : Traced N E F (Routed S)) (at to : OutputPlace) (t : S) →
      stack_in v at.stack ≡ o → (at.stack ≡ to.stack → at.place ≢ to.place) →
      sink_with (stack_in (changed_with o v at t) to.stack) to.place ≡ sink_with (stack_in v to.stack) to.place
  with_else None v at to t there differ = refl
  with_else (Some x) v at to t there differ = by_bool (to.stack == at.stack) here apart where
    here : (to.stack == at.stack) ≡ true →
        sink_with (stack_in (changed_with (Some x) v at t) to.stack) to.place ≡ sink_with (stack_in v to.stack) to.place
    here is =
        let same : to.stack ≡ at.stack = (unsigned_Decides to.stack at.stack).0 is in
        ap (λ (k : ℕ). sink_with (stack_in (changed_with (Some x) v at t) k) to.place) same ∙
        ap (λ (o : Option (TraceStackValue N E F (Routed S))). sink_with o to.place)
        (stack_own v at.stack x (record x { sinks = put_sink x.sinks at.place t }) there) ∙
        sink_else x.sinks at.place to.place t (differ (sym same)) ∙
        sym (ap (λ (o : Option (TraceStackValue N E F (Routed S))). sink_with o to.place) there) ∙
        sym (ap (λ (k : ℕ). sink_with (stack_in v k) to.place) same)

    apart : (to.stack == at.stack) ≡ false →
        sink_with (stack_in (changed_with (Some x) v at t) to.stack) to.place ≡ sink_with (stack_in v to.stack) to.place
    apart is =
        ap (λ (o : Option (TraceStackValue N E F (Routed S))). sink_with o to.place)
        (stays_if v at.stack to.stack (record x { sinks = put_sink x.sinks at.place t }) (held_in v at.stack) is)

  where_else : (p q : Option OutputPlace) (v : Traced N E F (Routed S)) (t : S)
      (differ : (at to : OutputPlace) → p ≡ Some at → q ≡ Some to → at.stack ≡ to.stack → at.place ≢ to.place) →
      sink_where q (changed_where p v t) ≡ sink_where q v
  where_else None q v t differ = refl
  where_else (Some at) None v t differ = refl
  where_else (Some at) (Some to) v t differ = with_else (stack_in v at.stack) v at to t refl (differ at to refl refl)

  -- the sinks with other numbers stay
  pub put_else : (v : Traced N E F (Routed S)) (number other : ℕ) (t : S) → number ≢ other →
      sink_at (with_sink v number t) other ≡ sink_at v other
  put_else v number other t apart =
      ap (λ (ks : List ℕ). sink_where (output_in ks 0 other) (with_sink v number t)) (counts_stay (output_in v.sinks 0 number) v t) ∙
      where_else (output_in v.sinks 0 number) (output_in v.sinks 0 other) v t
      (λ at to is too stacks places. apart (one_number v.sinks 0 number other at to is too stacks places))
