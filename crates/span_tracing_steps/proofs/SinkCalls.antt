-- A place where no stack waits.
use Rattle.std.proofs.Common.{◌≡◌, ◌<◌, ℕ, zero, suc, List, [], ◌∷◌, length, Option, Some, None, arith, refl, sym, ap, subst}
use Rattle.std.proofs.Common.{slice_get, slice_index_or, slice_set}
use Rattle.span_tracing_skeleton.specs.Looking.{inner}
use Rattle.span_tracing_skeleton.specs.declared.call.Reply.{Reply}
use Rattle.span_tracing_skeleton.specs.declared.call.Reply.TheVariants.{Refused}
use Rattle.span_tracing_skeleton.specs.declared.queue_call.QueueCall.{QueueCall}
use Rattle.span_tracing_skeleton.specs.declared.refusal.Refusal.TheVariants.{UnknownSink}
use Rattle.span_tracing_skeleton.specs.declared.setting.OutputPlace.{OutputPlace}
use Rattle.span_tracing_steps.specs.SinkCalls.{WaitingCalled}
use Rattle.span_tracing_steps.specs.States.{StateValue}

none_waits : {A : Type 0} (xs : List (Option A)) (i : ℕ) → i < length xs → None ≡ slice_index_or xs i None →
    (inner (slice_get xs i) ≡ None) × (slice_set xs i None ≡ xs)
none_waits [] i below is = absurd (omega (arith, below))
none_waits (x ∷ xs) zero below is = (ap inner (ap Some (sym is)), ap (λ y. y ∷ xs) is)
none_waits (x ∷ xs) (suc i) below is =
    let (none, same) = none_waits xs i (omega (arith, below)) is in
    (none, ap (λ ys. x ∷ ys) same)

pub none_called : {T : Type 0} (drives : T → ℕ → QueueCall → Reply → T → Type 0) (v : StateValue T) (at : OutputPlace) (call : QueueCall)
    (x : Option T) → at.stack < length v.retired → x ≡ slice_index_or v.retired at.stack x → x ≡ None →
    WaitingCalled drives v at call (inner (slice_get v.retired at.stack)) (Refused UnknownSink)
    (record v { retired = slice_set v.retired at.stack x })
none_called {T = T} drives v at call x below there none =
    let is : None ≡ slice_index_or v.retired at.stack None = subst (λ (y : Option T). y ≡ slice_index_or v.retired at.stack y) none there in
    let both = none_waits v.retired at.stack below is in
    subst (λ (y : Option T). WaitingCalled drives v at call (inner (slice_get v.retired at.stack)) (Refused UnknownSink)
    (record v { retired = slice_set v.retired at.stack y })) (sym none)
    (subst (λ (o : Option T). WaitingCalled drives v at call o (Refused UnknownSink)
    (record v { retired = slice_set v.retired at.stack None })) (sym both.0)
    (refl, ap (λ (rs : List (Option T)). record v { retired = rs }) both.1))
