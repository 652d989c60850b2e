-- A call on a sink's queue: what it makes of the stacks, and that it leaves a trace ready.
use Rattle.std.proofs.Common.{◌≡◌, ◌∙◌, ◌<◌, ◌==◌, Bool, true, false, ℕ, zero, suc, List, [], ◌∷◌, length, Option, Some, None, arith, refl}
use Rattle.std.proofs.Common.{sym, ap, subst}
use Rattle.std.specs.Prelude.{slice_get, slice_set}
use Rattle.std.specs.Cmp.{unsigned_Decides}
use Rattle.std.proofs.lemmas.List.{length-set}
use Rattle.tracing_core_fields.specs.requests.PlainRequests.{PlainEvent}
use Rattle.tracing_core.proofs.SubscriberNumbers.{by_bool}
use Rattle.span_registry_layers_layers.specs.declared.filter.Filter.{Ghosts as FilterGhosts}
use Rattle.span_registry_layers_layers.specs.declared.layer.Layer.{Ghosts as LayerGhosts}
use Rattle.span_registry_layers_store.specs.Laws.{IsSound}
use Rattle.span_registry_layers_store.specs.SlotIndependence.{bare}
use Rattle.span_registry_layers.specs.CacheValidity.{CacheIsValid}
use Rattle.event_formatter_text.specs.declared.format_fields.FormatFields.{Ghosts}
use Rattle.event_formatter_text.specs.declared.settings.Settings.{Settings}
use Rattle.event_formatter.specs.formats.Contexts.{PlainContext}
use Rattle.span_tracing_outputs.specs.OutputFolds.{EachAgrees, Numbered}
use Rattle.span_tracing_outputs.specs.OutputMachines.{PlainLine}
use Rattle.span_tracing_outputs.specs.StackFollows.{LinedStack}
use Rattle.span_tracing_outputs.specs.TraceFollows.{AreFirst, IsReady, numbers_in}
use Rattle.span_tracing_outputs.specs.TraceStacks.{IsAtRest, TraceStackValue}
use Rattle.span_tracing_outputs.specs.Turns.{AreDistinct, Lines, keys_of}
use Rattle.span_tracing_skeleton.specs.Looking.{inner, output_in}
use Rattle.span_tracing_skeleton.specs.declared.call.Reply.{Reply}
use Rattle.span_tracing_skeleton.specs.declared.queue_call.QueueCall.{QueueCall}
use Rattle.span_tracing_skeleton.specs.declared.setting.OutputPlace.{OutputPlace}
use Rattle.span_tracing_steps.specs.SinkCalls.{DriveGives, PlaceCalled, StackCalled}
use Rattle.span_tracing_steps.specs.States.{held_in, or_retired, stack_in}
use Rattle.span_tracing_steps.specs.Steps.{becoming}
use Rattle.tracing_core_moments.specs.declared.at.At.{At}
use Rattle.span_tracing_laws.specs.runs.DrivenSinks.{DriveKeeps, DrivenAt, DrivenIf, drives}
use Rattle.span_tracing_laws.specs.runs.KeptStacks.{OutsAgree}
use Rattle.span_tracing_laws.specs.runs.StepFollows.{TraceIsReady, Traced, skeleton_of}
use Rattle.span_tracing_laws.proofs.runs.HubStacks.{became_elsewhere, became_in}
use Rattle.span_tracing_outputs.proofs.ListPlaces.{set_other, set_own}
use Rattle.span_tracing_laws.proofs.runs.StepOutcomes.{became_ready, skeleton_stays}

waits_below : {A : Type 0} (xs : List (Option A)) (i : ℕ) (x : A) → inner (slice_get xs i) ≡ Some x → i < length xs
waits_below [] i x is = absurd (cc)
waits_below (y ∷ ys) zero x is = omega arith
waits_below (y ∷ ys) (suc i) x is = let below = waits_below ys i x is in omega (arith, below)

module _ {N E F S : Type 0} (n : Ghosts N) (line_of : E → Settings → PlainContext → PlainEvent → Option (List ℕ)) (g : FilterGhosts F)
    (takes : S → At → PlainLine → S → Type 0) (h : LayerGhosts (Lines N E)) where
  abbrev Stack : Type 0
  Stack = TraceStackValue N E F S

  -- the outputs are the same, and there are as many sinks
  record Same (x y : Stack) : Type 0 where
    pub stack : y.stack ≡ x.stack
    pub count : length y.sinks ≡ length x.sinks

  rests : (x y : Stack) → Same x y → IsAtRest x.stack x.sinks → IsAtRest y.stack y.sinks
  rests x y same rest =
      subst (λ (s : LinedStack N E F). IsAtRest s y.sinks) (sym same.stack) (same.count ∙ rest.0, rest.1)

  ready_same : (x y : Stack) → Same x y → IsReady g x → IsReady g y
  ready_same x y same ready = record {
    valid = subst (CacheIsValid g) (sym same.stack) ready.valid;
    sound = subst (λ (s : LinedStack N E F). IsSound s.registry) (sym same.stack) ready.sound;
    keys = subst (λ (s : LinedStack N E F). AreDistinct (keys_of s.rows)) (sym same.stack) ready.keys;
    numbers = subst (λ (s : LinedStack N E F). AreFirst (numbers_in s.rows)) (sym same.stack) ready.numbers;
    rest = rests x y same ready.rest;
  }

  agree_same : (x y : Stack) (outs : List (Numbered N)) → Same x y → OutsAgree n line_of g (Some x) outs →
      OutsAgree n line_of g (Some y) outs
  agree_same x y outs same agree = (
    subst (λ (s : LinedStack N E F). EachAgrees n line_of g s.registry s.rows outs) (sym same.stack) agree.0,
    same.count ∙ agree.1,
  )

  module _ (calls : ℕ → QueueCall → List S → Reply → List S → Type 0)
      (counts : (number : ℕ) (call : QueueCall) (olds : List S) (reply : Reply) (news : List S) → calls number call olds reply news →
      length news ≡ length olds) where
    same_by : (x : Stack) (number : ℕ) (call : QueueCall) (reply : Reply) (y : Stack) → drives calls x number call reply y → Same x y
    same_by x number call reply y goes = record { stack = goes.0; count = counts number call x.sinks reply y.sinks goes.1 }

    -- what the stacks became: the one of this number became what its sinks were called to, and the others stayed
    became : (v u : Traced N E F S) (at : OutputPlace) (call : QueueCall) (reply : Reply) (x y : Stack) → stack_in v at.stack ≡ Some x →
        stack_in u at.stack ≡ Some y → ((number : ℕ) → (number == at.stack) ≡ false → stack_in u number ≡ stack_in v number) →
        drives calls x at.place call reply y → (number : ℕ) →
        DrivenAt calls (Some at) call reply number (stack_in v number) (stack_in u number)
    became v u at call reply x y before after others goes number = by_bool (at.stack == number)
        (λ here.
        let is : at.stack ≡ number = (unsigned_Decides at.stack number).0 here in
        subst (λ (b : Bool). DrivenIf calls b at.place call reply (stack_in v number) (stack_in u number)) (sym here)
        (subst (λ (k : ℕ). DrivenIf calls true at.place call reply (stack_in v k) (stack_in u k)) is
        (subst (λ (o : Option Stack). DrivenIf calls true at.place call reply o (stack_in u at.stack)) (sym before) (y, goes, after))))
        (λ apart.
        subst (λ (b : Bool). DrivenIf calls b at.place call reply (stack_in v number) (stack_in u number)) (sym apart)
        (others number (turned at.stack number apart)))
      where
        turned : (a b : ℕ) → (a == b) ≡ false → (b == a) ≡ false
        turned a b apart = grind arith

    abbrev Driven : Traced N E F S → OutputPlace → QueueCall → Reply → Traced N E F S → Type 0
    Driven v at call reply w = (number : ℕ) → DrivenAt calls (Some at) call reply number (stack_in v number) (stack_in w number)

    -- one that was released and waits
    abbrev waiting : Traced N E F S → OutputPlace → Stack → Traced N E F S
    waiting v at y = record v { retired = slice_set v.retired at.stack (Some y) }

    held_driven : (v : Traced N E F S) (at : OutputPlace) (call : QueueCall) (reply : Reply) (x y : Stack) → held_in v at.stack ≡ Some x →
        drives calls x at.place call reply y → Driven v at call reply (becoming at.stack y v)
    held_driven v at call reply x y there goes =
        became v (becoming at.stack y v) at call reply x y (ap (λ (o : Option Stack). or_retired o (slice_get v.retired at.stack)) there)
        (became_in v at.stack x y there) (λ number apart. became_elsewhere v at.stack y number apart) goes

    waits_driven : (v : Traced N E F S) (at : OutputPlace) (call : QueueCall) (reply : Reply) (x y : Stack) → held_in v at.stack ≡ None →
        inner (slice_get v.retired at.stack) ≡ Some x → drives calls x at.place call reply y →
        Driven v at call reply (waiting v at y)
    waits_driven v at call reply x y gone there goes =
        became v (waiting v at y) at call reply x y
        (ap (λ (o : Option Stack). or_retired o (slice_get v.retired at.stack)) gone ∙ there)
        (ap (λ (o : Option Stack). or_retired o (slice_get (waiting v at y).retired at.stack)) gone ∙
        ap (λ (o : Option (Option Stack)). inner o) (set_own v.retired at.stack (Some y) (waits_below v.retired at.stack x there)))
        (λ number apart. ap (λ (o : Option (Option Stack)). or_retired (held_in v number) o)
        (set_other v.retired at.stack number (Some y) apart)) goes

    -- nothing was called, where there is no stack
    none_driven : (v : Traced N E F S) (at : OutputPlace) (call : QueueCall) (reply : Reply) → stack_in v at.stack ≡ None →
        Driven v at call reply v
    none_driven v at call reply none number = by_bool (at.stack == number)
        (λ here.
        let is : at.stack ≡ number = (unsigned_Decides at.stack number).0 here in
        subst (λ (b : Bool). DrivenIf calls b at.place call reply (stack_in v number) (stack_in v number)) (sym here)
        (subst (λ (k : ℕ). DrivenIf calls true at.place call reply (stack_in v k) (stack_in v k)) is
        (subst (λ (o : Option Stack). DrivenIf calls true at.place call reply o o) (sym none) refl)))
        (λ apart.
        subst (λ (b : Bool). DrivenIf calls b at.place call reply (stack_in v number) (stack_in v number)) (sym apart) refl)

    called : (v : Traced N E F S) (at : OutputPlace) (call : QueueCall) (o waits : Option Stack) (reply : Reply) (w : Traced N E F S) →
        held_in v at.stack ≡ o → inner (slice_get v.retired at.stack) ≡ waits → StackCalled (drives calls) v at call o waits reply w →
        Driven v at call reply w
    called v at call None None reply w gone none goes =
        subst (Driven v at call reply) (sym goes.1)
        (none_driven v at call reply (ap (λ (o : Option Stack). or_retired o (slice_get v.retired at.stack)) gone ∙ none))
    called v at call None (Some x) reply w gone there goes =
        subst (Driven v at call reply) (sym goes.2) (waits_driven v at call reply x goes.0 gone there goes.1)
    called v at call (Some x) waits reply w there besides goes =
        subst (Driven v at call reply) (sym goes.2) (held_driven v at call reply x goes.0 there goes.1)

    placed : (v : Traced N E F S) (o : Option OutputPlace) (call : QueueCall) (reply : Reply) (w : Traced N E F S) →
        PlaceCalled (drives calls) v o call reply w → (number : ℕ) →
        DrivenAt calls o call reply number (stack_in v number) (stack_in w number)
    placed v None call reply w goes number = ap (λ (u : Traced N E F S). stack_in u number) goes.1
    placed v (Some at) call reply w goes number =
        called v at call (held_in v at.stack) (inner (slice_get v.retired at.stack)) reply w refl refl goes number

    -- each stack, after a call on the queue of the sink with a number
    pub driven_stacks : (v : Traced N E F S) (sink : ℕ) (call : QueueCall) (reply : Reply) (w : Traced N E F S) →
        DriveGives (drives calls) v sink call reply w → (number : ℕ) →
        DrivenAt calls (output_in v.sinks 0 sink) call reply number (stack_in v number) (stack_in w number)
    driven_stacks v sink call reply w goes number = placed v (output_in v.sinks 0 sink) call reply w goes number

    driven_agrees : (b : Bool) (place : ℕ) (call : QueueCall) (reply : Reply) (o p : Option Stack) (outs : List (Numbered N)) →
        DrivenIf calls b place call reply o p → OutsAgree n line_of g o outs → OutsAgree n line_of g p outs
    driven_agrees false place call reply o p outs same agree = subst (λ (q : Option Stack). OutsAgree n line_of g q outs) (sym same) agree
    driven_agrees true place call reply None p outs none agree = subst (λ (q : Option Stack). OutsAgree n line_of g q outs) (sym none) agree
    driven_agrees true place call reply (Some x) p outs goes agree =
        subst (λ (q : Option Stack). OutsAgree n line_of g q outs) (sym goes.2)
        (agree_same x goes.0 outs (same_by x place call reply goes.0 goes.1) agree)

    agrees_at : (o : Option OutputPlace) (call : QueueCall) (reply : Reply) (number : ℕ) (before after : Option Stack)
        (outs : List (Numbered N)) → DrivenAt calls o call reply number before after → OutsAgree n line_of g before outs →
        OutsAgree n line_of g after outs
    agrees_at None call reply number before after outs same agree =
        subst (λ (q : Option Stack). OutsAgree n line_of g q outs) (sym same) agree
    agrees_at (Some at) call reply number before after outs goes agree =
        driven_agrees (at.stack == number) at.place call reply before after outs goes agree

    -- the skeleton stays, and a ready trace stays ready
    record Stays (v w : Traced N E F S) : Type 0 where
      pub skeleton : skeleton_of w ≡ skeleton_of v
      pub ready : TraceIsReady g h v → TraceIsReady g h w

    held_stays : (v : Traced N E F S) (at : OutputPlace) (x y : Stack) → held_in v at.stack ≡ Some x → Same x y →
        Stays v (becoming at.stack y v)
    held_stays v at x y there same = record {
      skeleton = skeleton_stays n line_of g takes h v (becoming at.stack y v) at.stack x y there refl
          (ap (λ (s : LinedStack N E F). bare s.registry) same.stack);
      ready = λ ready. became_ready n line_of g takes h v at.stack x y ready there (ready_same x y same (ready.stacks at.stack x there));
    }

    waits_stays : (v : Traced N E F S) (at : OutputPlace) (y : Stack) → Stays v (waiting v at y)
    waits_stays v at y = record {
      skeleton = refl;
      ready = λ ready. record {
        sound = ready.sound;
        given = length-set v.retired at.stack (Some y) ∙ ready.given;
        stacks = ready.stacks;
      };
    }

    same_stays : (v : Traced N E F S) → Stays v v
    same_stays v = record { skeleton = refl; ready = λ ready. ready }

    called_stays : (v : Traced N E F S) (at : OutputPlace) (call : QueueCall) (o waits : Option Stack) (reply : Reply)
        (w : Traced N E F S) → held_in v at.stack ≡ o → StackCalled (drives calls) v at call o waits reply w → Stays v w
    called_stays v at call None None reply w gone goes = subst (Stays v) (sym goes.1) (same_stays v)
    called_stays v at call None (Some x) reply w gone goes = subst (Stays v) (sym goes.2) (waits_stays v at goes.0)
    called_stays v at call (Some x) waits reply w there goes =
        subst (Stays v) (sym goes.2) (held_stays v at x goes.0 there (same_by x at.place call reply goes.0 goes.1))

    place_stays : (v : Traced N E F S) (o : Option OutputPlace) (call : QueueCall) (reply : Reply) (w : Traced N E F S) →
        PlaceCalled (drives calls) v o call reply w → Stays v w
    place_stays v None call reply w goes = subst (Stays v) (sym goes.1) (same_stays v)
    place_stays v (Some at) call reply w goes =
        called_stays v at call (held_in v at.stack) (inner (slice_get v.retired at.stack)) reply w refl goes

    pub drive_keeps : (v : Traced N E F S) (sink : ℕ) (call : QueueCall) (reply : Reply) (w : Traced N E F S) →
        DriveGives (drives calls) v sink call reply w → DriveKeeps n line_of g v w
    drive_keeps v sink call reply w goes = record {
      skeleton = (place_stays v (output_in v.sinks 0 sink) call reply w goes).skeleton;
      agrees = λ number outs agree. agrees_at (output_in v.sinks 0 sink) call reply number (stack_in v number) (stack_in w number) outs
          (driven_stacks v sink call reply w goes number) agree;
    }

    pub drive_ready : (v : Traced N E F S) (sink : ℕ) (call : QueueCall) (reply : Reply) (w : Traced N E F S) → TraceIsReady g h v →
        DriveGives (drives calls) v sink call reply w → TraceIsReady g h w
    drive_ready v sink call reply w ready goes = (place_stays v (output_in v.sinks 0 sink) call reply w goes).ready ready
