-- Setup calls leave a trace ready.
use Rattle.std.proofs.Common.{◌≡◌, inl, inr, ℕ, ◌==◌, ◌+◌, Bool, true, false, List, [], ◌∷◌, ◌++◌, length, Option, Some, None, Result, Ok}
use Rattle.std.proofs.Common.{Err}
use Rattle.std.proofs.Common.{refl, sym, ap, ◌∙◌, subst, arith}
use Rattle.std.specs.Cmp.{unsigned_Decides}
use Rattle.std.specs.Option.{option_map}
use Rattle.std.specs.Prelude.{if◌then◌else◌, is_some, map, not, slice_get}
use Rattle.std.proofs.lemmas.List.{length-append}
use Rattle.tracing_core_fields.specs.PlainMetadata.{PlainMetadata}
use Rattle.tracing_core_fields.specs.requests.Calls.{Call, ReplyTo, CallsiteRegistered, DispatchRegistered, HintAsked}
use Rattle.tracing_core_fields.specs.requests.Interests.{PlainInterest}
use Rattle.tracing_core_fields.specs.requests.PlainRequests.{PlainEvent}
use Rattle.tracing_core_moments.specs.declared.at.At.{At}
use Rattle.tracing_core_fields.specs.declared.requests.subscriber.Subscriber.{Ghosts as SubscriberGhosts}
use Rattle.tracing_core.specs.CacheRefresh.{Formed, Refreshed}
use Rattle.tracing_core.specs.Commands.{RegisterGives as HubRegisters, RegisterGivesAt as HubRegistersAt, callsite_with, kept_alike, living}
use Rattle.tracing_core.specs.Table.{Table}
use Rattle.tracing_core.proofs.CachePreservation.{add_keeps, form_keeps, lent_keeps, register_keeps}
use Rattle.tracing_core.proofs.SubscriberNumbers.{by_bool, if_either}
use Rattle.span_registry_layers_layers.specs.declared.filter.Filter.{Ghosts as FilterGhosts}
use Rattle.span_registry_layers_layers.specs.declared.layer.Layer.{Ghosts as LayerGhosts}
use Rattle.span_registry_layers.specs.CacheValidity.{CacheIsValid}
use Rattle.span_registry_layers.specs.OutputSlots.{marked}
use Rattle.event_formatter_text.specs.declared.format_fields.FormatFields.{Ghosts}
use Rattle.event_formatter_text.specs.declared.settings.Settings.{Settings}
use Rattle.event_formatter.specs.formats.Contexts.{PlainContext}
use Rattle.span_tracing_outputs.specs.OutputMachines.{PlainLine}
use Rattle.span_tracing_outputs.specs.StackFollows.{LinedStack}
use Rattle.span_tracing_outputs.specs.OutputFolds.{Numbered}
use Rattle.span_tracing_outputs.specs.TraceFollows.{IsReady, Rests, TraceFollows}
use Rattle.span_tracing_outputs.specs.OutputFilters.{StackSwap}
use Rattle.span_tracing_outputs.specs.OutputSettings.{outputs_in}
use Rattle.span_tracing_outputs.specs.TraceStacks.{TraceMoves, TraceStackValue}
use Rattle.span_tracing_outputs.specs.Turns.{Lined, Lines}
use Rattle.span_tracing_outputs.proofs.OutputFilters.{swapped_agrees, swapped_ready, swapped_rows, swapped_spans}
use Rattle.span_tracing_skeleton.specs.Looking.{inner, is_held, named, output_at}
use Rattle.span_tracing_skeleton.specs.Skeleton.{Skeleton}
use Rattle.tracing_core.specs.TableRows.{KeptCallsite}
use Rattle.span_tracing_skeleton.specs.Machine.{or_same}
use Rattle.span_tracing_skeleton.specs.Refusing.{output_refusal, output_refusal_by, when}
use Rattle.span_tracing_skeleton.specs.declared.call.Reply.{Reply}
use Rattle.span_tracing_skeleton.specs.declared.refusal.Refusal.{Refusal}
use Rattle.span_tracing_skeleton.specs.declared.refusal.Refusal.TheVariants.{OutOfMemory, ReleasedStack}
use Rattle.span_tracing_skeleton.specs.declared.setting.OutputPlace.{OutputPlace}
use Rattle.span_tracing_steps.specs.Asking.{AsksAnew}
use Rattle.span_tracing_steps.specs.FilterSwaps.{OutputSwaps, StackSwaps, SwapGives, SwapUnless, lent_in}
use Rattle.span_registry_layers_store.specs.SlotIndependence.{bare}
use Rattle.span_tracing_skeleton.specs.Setup.{with_callsite, with_stack}
use Rattle.span_tracing_steps.specs.Callsites.{own_metadata}
use Rattle.span_tracing_steps.specs.Setup.{AddGives, RegisterGives, RegistersAs}
use Rattle.span_tracing_steps.specs.States.{held_in, or_retired, stack_in}
use Rattle.span_tracing_steps.specs.contracts.callsite.TraceCallsiteCallsite.TheImpl.{ghosts}
use Rattle.span_tracing_steps.specs.declared.callsite.TraceCallsite.{TraceCallsite}
use Rattle.span_tracing_laws.specs.runs.SwappedOutputs.{filter_set, stack_filtered, swapped_at}
use Rattle.span_tracing_laws.specs.runs.StepFollows.{TraceIsReady, Traced, registry_of, skeleton_of}
use Rattle.span_tracing_laws.specs.runs.Laws.{AskedFollows, Registers, SetupFollows, SwapFollows}
use Rattle.span_tracing_laws.specs.runs.KeptStacks.{OutputsStay, OutsAgree, StackKeeps, StackStays}
use Rattle.span_tracing_laws.proofs.runs.AskedStacks.{Alike, Pairs, appended_other, appended_own, formed_pairs, joined_pairs, pairs_at}
use Rattle.span_tracing_laws.proofs.runs.HubStacks.{held_there, none_appended, with_number}
use Rattle.span_tracing_laws.proofs.runs.LentStacks.{added_skeleton, asked_skeleton, asked_word, formed_skeleton, lent_other, lent_own}
use Rattle.span_tracing_laws.proofs.runs.LentStacks.{named_there, registered_skeleton, swapped_word, with_new}

module _ {N E F S : Type 0} (n : Ghosts N) (line_of : E → Settings → PlainContext → PlainEvent → Option (List ℕ)) (g : FilterGhosts F)
    (takes : S → At → PlainLine → S → Type 0) (h : LayerGhosts (Lines N E)) (sg : SubscriberGhosts (TraceStackValue N E F S))
    (moved : (x : TraceStackValue N E F S) (c : Call) (r : ReplyTo c) (y : TraceStackValue N E F S) → sg.moves x c r y →
    TraceMoves g h takes x c r y) (steady : (x : TraceStackValue N E F S) → CacheIsValid g x.stack → sg.steady x)
    (law : TraceFollows n line_of g takes h) where
  abbrev Stack : Type 0
  Stack = TraceStackValue N E F S

  -- ready, its outputs agree as they did, and they stay with their sinks
  abbrev Kept : Stack → Stack → Type 0
  Kept x y = IsReady g y × ((outs : List (Numbered N)) → OutsAgree n line_of g (Some x) outs → OutsAgree n line_of g (Some y) outs) ×
      OutputsStay x y

  same_stays : (x : Stack) → OutputsStay x x
  same_stays x = record { sinks = refl; registry = refl; rows = refl }

  same_kept : (x : Stack) → IsReady g x → Kept x x
  same_kept x ready = (ready, λ outs a. a, same_stays x)

  kept_ready : (x y : Stack) → Kept x y → IsReady g y
  kept_ready x y kept = kept.0

  rested : (x y : Stack) → IsReady g y → y.stack.registry ≡ x.stack.registry → Rests n line_of g takes x y → Kept x y
  rested x y ready spans rests = (
    ready,
    λ outs a. (rests.agreed outs a.0, ap length rests.sinks ∙ a.1),
    record { sinks = rests.sinks; registry = spans; rows = rests.rows },
  )

  onward : (x y z : Stack) → Kept x y → Kept y z → Kept x z
  onward x y z one two = (
    two.0,
    λ outs a. two.1 outs (one.1 outs a),
    record {
      sinks = two.2.sinks ∙ one.2.sinks;
      registry = two.2.registry ∙ one.2.registry;
      rows = two.2.rows ∙
          one.2.rows;
    },
  )

  asked : (x : Stack) (m : PlainMetadata) (k : PlainInterest) (y : Stack) → IsReady g x → sg.moves x (CallsiteRegistered m) k y → Kept x y
  asked x m k y ready moves =
      let goes = law.goes x (CallsiteRegistered m) k y ready (moved x (CallsiteRegistered m) k y moves) in
      rested x y (law.ready x (CallsiteRegistered m) k y ready (moved x (CallsiteRegistered m) k y moves))
      (ap (λ (s : LinedStack N E F). s.registry) goes.1.1) goes.2

  hinted : (x y : Stack) (hint : Option ℕ) → IsReady g x → sg.moves x HintAsked hint y → Kept x y
  hinted x y hint ready moves =
      let goes = law.goes x HintAsked hint y ready (moved x HintAsked hint y moves) in
      rested x y (law.ready x HintAsked hint y ready (moved x HintAsked hint y moves))
      (ap (λ (s : LinedStack N E F). s.registry) goes.1) goes.2

  handled : (x y : Stack) (number : ℕ) → IsReady g x → sg.moves x (DispatchRegistered (Some number)) tt y → y ≡ x
  handled x y number ready moves = law.goes x (DispatchRegistered (Some number)) tt y ready
      (moved x (DispatchRegistered (Some number)) tt y moves)

  abbrev AlikeStacks : Option Stack → Option Stack → Type 0
  AlikeStacks o p = Alike {T = Stack} (IsReady g) Kept o p

  abbrev Keeps : Option Stack → Option Stack → Type 0
  Keeps o p = StackKeeps n line_of g o p

  keeps_same : (o : Option Stack) → Keeps o o
  keeps_same None = record { stays = tt; agrees = λ outs a. a }
  keeps_same (Some x) = record { stays = same_stays x; agrees = λ outs a. a }

  keeps_kept : (x y : Stack) → Kept x y → Keeps (Some x) (Some y)
  keeps_kept x y kept = record { stays = kept.2; agrees = kept.1 }

  -- of a stack that was held, or waits
  keeps_alike : (o p : Option Stack) (q r : Option (Option Stack)) → ((x : Stack) → o ≡ Some x → IsReady g x) → AlikeStacks o p →
      inner r ≡ inner q → Keeps (or_retired o q) (or_retired p r)
  keeps_alike None None q r ready alike same = subst (λ (z : Option Stack). Keeps (inner q) z) (sym same) (keeps_same (inner q))
  keeps_alike None (Some y) q r ready alike same = absurd alike
  keeps_alike (Some x) None q r ready alike same = absurd alike
  keeps_alike (Some x) (Some y) q r ready alike same = keeps_kept x y (alike (ready x refl))

  keeps_new : (x : Stack) (p : Option Stack) (r : Option (Option Stack)) → IsReady g x → AlikeStacks (Some x) p →
      Keeps (Some x) (or_retired p r)
  keeps_new x None r ready alike = absurd alike
  keeps_new x (Some y) r ready alike = keeps_kept x y (alike ready)

  ready_alike : (o p : Option Stack) (y : Stack) → ((x : Stack) → o ≡ Some x → IsReady g x) → AlikeStacks o p → p ≡ Some y → IsReady g y
  ready_alike None None y ready alike at = absurd (cc)
  ready_alike None (Some z) y ready alike at = absurd alike
  ready_alike (Some x) None y ready alike at = absurd alike
  ready_alike (Some x) (Some z) y ready alike at = let same : z ≡ y = cc in subst (IsReady g) same (alike (ready x refl)).0

  -- being asked changes no span
  spans_asked : (x : Stack) (m : PlainMetadata) (k : PlainInterest) (y : Stack) → Unit {0} → sg.moves x (CallsiteRegistered m) k y →
      registry_of y ≡ registry_of x
  spans_asked x m k y is moves = ap (λ (s : LinedStack N E F). s.registry) (moved x (CallsiteRegistered m) k y moves).0.1.1

  spans_hinted : (x y : Stack) (hint : Option ℕ) → Unit {0} → sg.moves x HintAsked hint y → registry_of y ≡ registry_of x
  spans_hinted x y hint is moves = ap (λ (s : LinedStack N E F). s.registry) (moved x HintAsked hint y moves).0.1

  -- a stack is added
  apart_from : (a b : ℕ) → (a == b) ≡ false → (b == a) ≡ false
  apart_from a b e = grind arith

  added_goes : (sinks_in : Stack → ℕ) (v : Traced N E F S) (x : Stack) (handle : ℕ) (w : Traced N E F S) → TraceIsReady g h v →
      IsReady g x → AddGives sg outputs_in sinks_in v x (Ok handle) w →
      TraceIsReady g h w × Keeps (Some x) (stack_in w v.hub.next) ×
      ((stack : ℕ) → (stack == v.hub.next) ≡ false → Keeps (stack_in v stack) (stack_in w stack)) ×
      (skeleton_of w ≡ with_stack (skeleton_of v) (bare (registry_of x)) (outputs_in x) (sinks_in x))
  added_goes sinks_in v x handle w ready own (told, adds, left) =
      let next = v.hub.next in
      let es = v.hub.subscribers in
      let z = adds.1.0 in
      let formed : Formed sg ghosts false (with_new v.hub z) w.hub = adds.1.2 in
      let same : z ≡ x = handled x z next own adds.1.1 in
      let retired : w.retired ≡ v.retired ++ None ∷ [] = ap (λ (u : Traced N E F S). u.retired) left in
      let pairs : Pairs {T = Stack} (IsReady g) Kept (es ++ living next z ∷ []) w.hub.subscribers =
      formed_pairs sg ghosts (IsReady g) Kept same_kept kept_ready onward asked hinted false (with_new v.hub z) w.hub formed in
      let alike = λ (number : ℕ). pairs_at (IsReady g) Kept number (es ++ living next z ∷ []) w.hub.subscribers pairs in
      let new : with_number next (es ++ living next z ∷ []) ≡ Some x =
      appended_own next es z ready.sound.numbers ∙ ap (λ (y : Stack). Some y) same in
      let others = λ (number : ℕ) (apart : (number == next) ≡ false).
      appended_other number es (living next z) (apart_from number next apart) in
      let new_alike : AlikeStacks (Some x) (held_in w next) =
      subst (λ (o : Option Stack). AlikeStacks o (held_in w next)) new (alike next) in
      let other_alike = λ (number : ℕ) (apart : (number == next) ≡ false).
      subst (λ (o : Option Stack). AlikeStacks o (held_in w number)) (others number apart) (alike number) in
      let own_ready = λ (y : Stack) (at : Some x ≡ Some y). let is : x ≡ y = cc in subst (IsReady g) is own in (
        record {
          sound = (add_keeps sg ghosts v.hub w.hub x (Ok (Some next)) adds).sound ready.sound;
          given = ap length retired ∙ length-append v.retired (None ∷ []) ∙ ap (λ k. k + 1) ready.given ∙
              sym (ap (λ (t : Table Stack TraceCallsite). t.next) formed.rest);
          stacks = λ number y at.
              by_bool (number == next)
              (λ here.
              let is : number ≡ next = (unsigned_Decides number next).0 here in
              ready_alike (Some x) (held_in w next) y own_ready new_alike
              (subst (λ k. held_in w k ≡ Some y) is at))
              (λ apart. ready_alike (held_in v number) (held_in w number) y (ready.stacks number) (other_alike number apart) at);
        },
        keeps_new x (held_in w next) (slice_get w.retired next) own new_alike,
        λ stack apart.
            keeps_alike (held_in v stack) (held_in w stack) (slice_get v.retired stack) (slice_get w.retired stack) (ready.stacks stack)
            (other_alike stack apart)
            (ap (λ (rs : List (Option Stack)). inner (slice_get rs stack)) retired ∙ none_appended v.retired stack),
        added_skeleton registry_of sg spans_asked spans_hinted v w x z (outputs_in x) (sinks_in x) same formed left,
      )

  -- a callsite is registered
  abbrev Stays : PlainMetadata → Result PlainInterest Refusal → Traced N E F S → Traced N E F S → Type 0
  Stays m r v w = TraceIsReady g h w × ((stack : ℕ) → Keeps (stack_in v stack) (stack_in w stack)) ×
      Registers (skeleton_of v) m r (skeleton_of w)

  unchanged : (m : PlainMetadata) (r : Result PlainInterest Refusal) (v w : Traced N E F S) → TraceIsReady g h v → w ≡ v →
      Registers (skeleton_of v) m r (skeleton_of v) → Stays m r v w
  unchanged m r v w ready same stays = subst (Stays m r v) (sym same) (ready, (λ stack. keeps_same (stack_in v stack)), stays)

  module _ (m : PlainMetadata) (v w : Traced N E F S) (callsite : TraceCallsite) (own : own_metadata callsite ≡ m)
      (ready : TraceIsReady g h v) where
    -- it is known to the skeleton where it is to the hub
    known_as : (o : Option (KeptCallsite TraceCallsite)) → callsite_with (ghosts.metadata_of callsite).callsite v.hub.callsites ≡ o →
        is_some (named (skeleton_of v).callsites m.callsite) ≡ is_some o
    known_as o is = ap (λ (k : PlainMetadata). is_some (named (skeleton_of v).callsites k.callsite)) (sym own)
        ∙ named_there v.hub.callsites (ghosts.metadata_of callsite).callsite ready.sound.sites ∙ ap is_some is

    abbrev left_by : Bool → Skeleton
    left_by known = if known then skeleton_of v else with_callsite (skeleton_of v) m

    registers_at : (c : Option (KeptCallsite TraceCallsite)) (o : Option (Option PlainInterest)) (interest : PlainInterest) →
        callsite_with (ghosts.metadata_of callsite).callsite v.hub.callsites ≡ c → kept_alike ghosts (ghosts.metadata_of callsite) c ≡ o →
        w ≡ record v { hub = w.hub } → HubRegisters sg ghosts v.hub callsite (Ok interest) w.hub →
        HubRegistersAt sg ghosts v.hub callsite o (Ok interest) w.hub → Stays m (Ok interest) v w
    registers_at c None interest at is left gives r =
        let es = v.hub.subscribers in
        let retired : w.retired ≡ v.retired = ap (λ (u : Traced N E F S). u.retired) left in
        let pairs : Pairs {T = Stack} (IsReady g) Kept es w.hub.subscribers =
        joined_pairs sg ghosts (IsReady g) Kept same_kept kept_ready onward asked hinted true (ghosts.metadata_of callsite)
        (length v.hub.callsites) None r.asked.0.0 es w.hub.subscribers r.asked.0.1 in
        let alike = λ (number : ℕ). pairs_at (IsReady g) Kept number es w.hub.subscribers pairs in (
          record {
            sound = (register_keeps sg ghosts v.hub w.hub callsite (Ok interest) gives).sound ready.sound;
            given = ap length retired ∙ ready.given ∙ sym (ap (λ (t : Table Stack TraceCallsite). t.next) r.kept);
            stacks = λ number y at. ready_alike (held_in v number) (held_in w number) y (ready.stacks number) (alike number) at;
          },
          (λ stack. keeps_alike (held_in v stack) (held_in w stack) (slice_get v.retired stack) (slice_get w.retired stack)
              (ready.stacks stack) (alike stack) (ap (λ (rs : List (Option Stack)). inner (slice_get rs stack)) retired)),
          registered_skeleton registry_of sg spans_asked spans_hinted v w callsite m r.row own r.asked r.kept left
              ∙ sym (ap left_by (known_as None r.unknown)),
        )
    registers_at c (Some None) interest at is left gives r = absurd (let clash = r.0 in cc)
    registers_at None (Some (Some kept)) interest at is left gives r = absurd (cc)
    registers_at (Some row) (Some (Some kept)) interest at is left gives r =
        unchanged m (Ok interest) v w ready (left ∙ ap (λ (t : Table Stack TraceCallsite). record v { hub = t }) r.1)
        (sym (ap left_by (known_as (Some row) at)))

    registers_as : (r : Result PlainInterest Refusal) → RegistersAs sg callsite v r w → Stays m r v w
    registers_as (Ok interest) goes =
        let n = ghosts.metadata_of callsite in
        registers_at (callsite_with n.callsite v.hub.callsites) (kept_alike ghosts n (callsite_with n.callsite v.hub.callsites)) interest
        refl refl goes.1 goes.0 goes.0
    registers_as (Err refusal) (inl goes) = unchanged m (Err refusal) v w ready goes.2 refl
    registers_as (Err refusal) (inr goes) = unchanged m (Err refusal) v w ready goes.1 refl

  registered_goes : (v : Traced N E F S) (m : PlainMetadata) (r : Result PlainInterest Refusal) (w : Traced N E F S) →
      TraceIsReady g h v → RegisterGives sg v m r w → Stays m r v w
  registered_goes v m r w ready (inl goes) = registers_as m v w goes.0 goes.1 ready r goes.2
  registered_goes v m r w ready (inr goes) =
      subst (λ (q : Result PlainInterest Refusal). Stays m q v w) (sym goes.0) (unchanged m (Err OutOfMemory) v w ready goes.1 refl)

  -- filters change places
  abbrev Swapped : Traced N E F S → ℕ → F → Traced N E F S → Type 0
  Swapped v output filter w = SwapFollows n line_of g takes h sg v output filter w

  abbrev FiltersSwap : Stack → ℕ → F → Stack → F → Type 0
  FiltersSwap x place filter y back = StackSwap g x place filter y back

  swap_refused : (v w : Traced N E F S) (output : ℕ) (filter : F) → TraceIsReady g h v → swapped_at (skeleton_of v) output ≡ None →
      w ≡ v → Swapped v output filter w
  swap_refused v w output filter ready none same = subst (λ (u : Traced N E F S). Swapped v output filter u) (sym same) (record {
    ready = ready;
    skeleton = refl;
    stays = λ stack. subst (λ (o : Option OutputPlace). StackStays (stack_filtered stack o filter (stack_in v stack)) (stack_in v stack))
        (sym none) (keeps_same (stack_in v stack)).stays;
    agrees = λ stack outs a. a;
    word = λ word. word;
  })

  stays_from : (x y : Stack) (p : Option Stack) → y.sinks ≡ x.sinks → y.stack.registry ≡ x.stack.registry →
      y.stack.rows ≡ x.stack.rows → StackStays (Some y) p → StackStays (Some x) p
  stays_from x y None sinks spans rows stays = stays
  stays_from x y (Some z) sinks spans rows stays = record {
    sinks = stays.sinks ∙ sinks;
    registry = stays.registry ∙ spans;
    rows = stays.rows ∙ ap (λ (ls : List (Lined N E F)). map (marked false) ls) rows;
  }

  module _ (v w : Traced N E F S) (at : OutputPlace) (filter back : F) (x y : Stack) (ready : TraceIsReady g h v) (own : g.honest filter)
      (there : held_in v at.stack ≡ Some x) (swap : FiltersSwap x at.place filter y back)
      (refreshed : Refreshed sg ghosts (lent_in v.hub at.stack y) w.hub) (left : w ≡ record v { hub = w.hub }) where
    abbrev lent : Table Stack TraceCallsite
    lent = lent_in v.hub at.stack y

    swapped_alike : (number : ℕ) → AlikeStacks (with_number number lent.subscribers) (held_in w number)
    swapped_alike number = pairs_at (IsReady g) Kept number lent.subscribers w.hub.subscribers
        (formed_pairs sg ghosts (IsReady g) Kept same_kept kept_ready onward asked hinted false lent w.hub refreshed)

    other_ready : IsReady g y
    other_ready = swapped_ready g at.place filter back x y (ready.stacks at.stack x there) own swap

    own_alike : AlikeStacks (Some y) (held_in w at.stack)
    own_alike = subst (λ (o : Option Stack). AlikeStacks o (held_in w at.stack)) (lent_own at.stack y v.hub.subscribers x there)
        (swapped_alike at.stack)

    other_alike : (number : ℕ) → (number == at.stack) ≡ false → AlikeStacks (held_in v number) (held_in w number)
    other_alike number apart = subst (λ (o : Option Stack). AlikeStacks o (held_in w number))
        (lent_other at.stack y v.hub.subscribers number apart) (swapped_alike number)

    waits : w.retired ≡ v.retired
    waits = ap (λ (u : Traced N E F S). u.retired) left

    at_other : (number : ℕ) → (number == at.stack) ≡ false → Keeps (stack_in v number) (stack_in w number)
    at_other number apart =
        keeps_alike (held_in v number) (held_in w number) (slice_get v.retired number) (slice_get w.retired number) (ready.stacks number)
        (other_alike number apart) (ap (λ (rs : List (Option Stack)). inner (slice_get rs number)) waits)

    at_own : Keeps (Some y) (stack_in w at.stack)
    at_own = keeps_new y (held_in w at.stack) (slice_get w.retired at.stack) other_ready own_alike

    was : stack_in v at.stack ≡ Some x
    was = ap (λ (o : Option Stack). or_retired o (slice_get v.retired at.stack)) there

    swapped_stays : (stack : ℕ) → StackStays (stack_filtered stack (Some at) filter (stack_in v stack)) (stack_in w stack)
    swapped_stays stack =
        let to = λ (z : Stack). filter_set z at.place filter in
        if_either (λ (o : Option Stack). StackStays o (stack_in w stack)) (at.stack == stack) (option_map to (stack_in v stack))
        (stack_in v stack)
        (λ here.
        let is : at.stack ≡ stack = (unsigned_Decides at.stack stack).0 here in
        subst (λ k. StackStays (option_map to (stack_in v k)) (stack_in w k)) is
        (subst (λ (o : Option Stack). StackStays (option_map to o) (stack_in w at.stack)) (sym was)
        (stays_from (to x) y (stack_in w at.stack) swap.1 (swapped_spans g at.place filter back x.stack y.stack swap.0)
        (swapped_rows g at.place filter back x.stack y.stack swap.0) at_own.stays)))
        (λ away. (at_other stack (apart_from at.stack stack away)).stays)

    swapped_agreed : (stack : ℕ) (outs : List (Numbered N)) → OutsAgree n line_of g (stack_in v stack) outs →
        OutsAgree n line_of g (stack_in w stack) outs
    swapped_agreed stack outs =
        by_bool (stack == at.stack)
        (λ here.
        let is : stack ≡ at.stack = (unsigned_Decides stack at.stack).0 here in
        subst (λ k. OutsAgree n line_of g (stack_in v k) outs → OutsAgree n line_of g (stack_in w k) outs) (sym is)
        (subst (λ (o : Option Stack). OutsAgree n line_of g o outs → OutsAgree n line_of g (stack_in w at.stack) outs) (sym was)
        (λ a. at_own.agrees outs (
          swapped_agrees g at.place filter back n line_of x.stack y.stack swap.0 outs a.0,
          ap length swap.1 ∙ a.1,
        ))))
        (λ away. (at_other stack away).agrees outs)

    swapped_goes : (output : ℕ) → swapped_at (skeleton_of v) output ≡ Some at → Swapped v output filter w
    swapped_goes output stands = record {
      ready = record {
        sound = (form_keeps sg ghosts false lent w.hub refreshed).sound ((lent_keeps sg ghosts v.hub (Some at.stack) y).sound ready.sound);
        given = ap length waits ∙ ready.given ∙ sym (ap (λ (t : Table Stack TraceCallsite). t.next) refreshed.rest);
        stacks = λ number z there. by_bool (number == at.stack)
            (λ here.
            let is : number ≡ at.stack = (unsigned_Decides number at.stack).0 here in
            ready_alike (Some y) (held_in w at.stack) z
            (λ u same. let one : y ≡ u = cc in subst (IsReady g) one other_ready) own_alike
            (subst (λ k. held_in w k ≡ Some z) is there))
            (λ apart. ready_alike (held_in v number) (held_in w number) z (ready.stacks number) (other_alike number apart) there);
      };
      skeleton = asked_skeleton registry_of sg spans_asked spans_hinted v w at.stack x y there
          (swapped_spans g at.place filter back x.stack y.stack swap.0) refreshed left;
      stays = λ stack. subst (λ (o : Option OutputPlace). StackStays (stack_filtered stack o filter (stack_in v stack)) (stack_in w stack))
          (sym stands) (swapped_stays stack);
      agrees = swapped_agreed;
      word = λ word. swapped_word sg v w at.stack y word refreshed x there (steady y other_ready.valid);
    }

  swap_held : (v w : Traced N E F S) (output : ℕ) (at : OutputPlace) (filter back : F) (o : Option Stack) → TraceIsReady g h v →
      g.honest filter → held_in v at.stack ≡ o → is_held (skeleton_of v) at.stack ≡ true → swapped_at (skeleton_of v) output ≡ Some at →
      StackSwaps sg FiltersSwap v at filter o w back → Swapped v output filter w
  swap_held v w output at filter back None ready own there held stands goes =
      let found = held_there registry_of v at.stack held in absurd (let clash : Some found.0 ≡ None = sym found.1 ∙ there in cc)
  swap_held v w output at filter back (Some x) ready own there held stands goes =
      swapped_goes v w at filter back x goes.0 ready own there goes.1 goes.2 goes.3 output stands

  not_released : (b : Bool) → when (not b) ReleasedStack ≡ None → b ≡ true
  not_released true is = refl
  not_released false is = absurd (cc)

  swap_at : (v w : Traced N E F S) (output : ℕ) (filter back : F) (reply : Reply) (o : Option OutputPlace) (r : Option Refusal) →
      TraceIsReady g h v → g.honest filter → output_at (skeleton_of v) output ≡ o → output_refusal_by (skeleton_of v) o ≡ r →
      SwapUnless sg registry_of FiltersSwap r v output filter reply w back → Swapped v output filter w
  swap_at v w output filter back reply o (Some refusal) ready own place is goes =
      swap_refused v w output filter ready
      (ap (λ (p : Option OutputPlace). or_same (output_refusal_by (skeleton_of v) p) None p) place ∙ ap (λ
      (r : Option Refusal). or_same r None o) is)
      goes.2
  swap_at v w output filter back reply None None ready own place is goes = absurd (cc)
  swap_at v w output filter back reply (Some at) None ready own place is goes =
      swap_held v w output at filter back (held_in v at.stack) ready own refl (not_released (is_held (skeleton_of v) at.stack) is)
      (ap (λ (p : Option OutputPlace). or_same (output_refusal_by (skeleton_of v) p) None p) place
      ∙ ap (λ (r : Option Refusal). or_same r None (Some at)) is)
      (subst (λ (p : Option OutputPlace). OutputSwaps sg FiltersSwap v p filter w back) place goes.1)

  swap_goes : (v : Traced N E F S) (output : ℕ) (filter : F) (reply : Reply) (w : Traced N E F S) (back : F) → TraceIsReady g h v →
      g.honest filter → SwapGives sg registry_of FiltersSwap v output filter reply w back → Swapped v output filter w
  swap_goes v output filter reply w back ready own goes =
      swap_at v w output filter back reply (output_at (skeleton_of v) output) (output_refusal (skeleton_of v) output) ready own refl refl
      goes

  -- all are asked anew
  asked_goes : (v w : Traced N E F S) → TraceIsReady g h v → AsksAnew sg v w → AskedFollows n line_of g takes h sg v w
  asked_goes v w ready (formed, left) =
      let es = v.hub.subscribers in
      let retired : w.retired ≡ v.retired = ap (λ (u : Traced N E F S). u.retired) left in
      let pairs : Pairs {T = Stack} (IsReady g) Kept es w.hub.subscribers =
      formed_pairs sg ghosts (IsReady g) Kept same_kept kept_ready onward asked hinted true v.hub w.hub formed in
      let alike = λ (number : ℕ). pairs_at (IsReady g) Kept number es w.hub.subscribers pairs in
      record {
        ready = record {
          sound = (form_keeps sg ghosts true v.hub w.hub formed).sound ready.sound;
          given = ap length retired ∙ ready.given ∙ sym (ap (λ (t : Table Stack TraceCallsite). t.next) formed.rest);
          stacks = λ number y at. ready_alike (held_in v number) (held_in w number) y (ready.stacks number) (alike number) at;
        };
        keeps = record {
          skeleton = formed_skeleton registry_of sg spans_asked spans_hinted true v w v.hub formed left;
          stacks = λ stack. keeps_alike (held_in v stack) (held_in w stack) (slice_get v.retired stack) (slice_get w.retired stack)
              (ready.stacks stack) (alike stack) (ap (λ (rs : List (Option Stack)). inner (slice_get rs stack)) retired);
        };
        word = asked_word sg v w ready.sound formed (λ number x there. steady x (ready.stacks number x there).valid);
      }

  pub setup_follows : SetupFollows n line_of g takes h sg
  setup_follows = record { added = added_goes; registered = registered_goes; swapped = swap_goes; asked = asked_goes }
