-- Runs follow the plain machine.
use Rattle.std.proofs.Common.{◌≡◌, ◌==◌, inl, inr, Bool, true, false, if◌then◌else◌, ℕ, suc, List, [], ◌∷◌, map, length, Option, Some, None}
use Rattle.std.proofs.Common.{refl, sym, ap, ◌∙◌, subst}
use Rattle.std.specs.Option.{option_map}
use Rattle.tracing_core_fields.specs.requests.PlainRequests.{PlainEvent}
use Rattle.tracing_core_moments.specs.declared.at.At.{At}
use Rattle.tracing_core_fields.specs.declared.requests.subscriber.Subscriber.{Ghosts as SubscriberGhosts}
use Rattle.span_registry_layers_layers.specs.declared.filter.Filter.{Ghosts as FilterGhosts}
use Rattle.span_registry_layers_layers.specs.declared.layer.Layer.{Ghosts as LayerGhosts}
use Rattle.event_formatter_text.specs.declared.format_fields.FormatFields.{Ghosts}
use Rattle.event_formatter_text.specs.declared.settings.Settings.{Settings}
use Rattle.event_formatter.specs.formats.Contexts.{PlainContext}
use Rattle.span_tracing_outputs.specs.SinkLines.{TakesLists}
use Rattle.span_tracing_outputs.specs.OutputNotices.{Notice}
use Rattle.span_tracing_outputs.specs.OutputMachines.{PlainLine}
use Rattle.span_tracing_outputs.specs.OutputFolds.{Fates, Numbered, outs_told, rest_of}
use Rattle.span_tracing_outputs.specs.TraceFollows.{at_rest, lines_offered}
use Rattle.span_tracing_outputs.specs.OutputSettings.{stack_set}
use Rattle.span_tracing_outputs.specs.TraceStacks.{TraceStackValue}
use Rattle.span_tracing_outputs.specs.Turns.{Lines}
use Rattle.span_tracing_outputs.specs.sinks.OutputRuns.{EachComposes, RunsEach, no_lines}
use Rattle.span_tracing_outputs.specs.sinks.SinkTurns.{Called, Offered, StackMeets, StackTurn}
use Rattle.span_tracing_skeleton.specs.Looking.{output_in}
use Rattle.span_tracing_outputs.specs.sinks.Runs.{RunsCompose, lines_at}
use Rattle.span_tracing_skeleton.specs.Machine.{after, reply_of}
use Rattle.span_tracing_skeleton.specs.PlainData.{AnyStep, OfQueue, OfTrace, PlainStep}
use Rattle.span_tracing_skeleton.specs.Skeleton.{Skeleton, Answers}
use Rattle.span_tracing_skeleton.specs.declared.call.Reply.{Reply}
use Rattle.span_tracing_skeleton.specs.declared.queue_call.QueueCall.{QueueCall}
use Rattle.span_tracing_skeleton.specs.declared.queue_call.SinkCall.{SinkCall}
use Rattle.span_tracing_skeleton.specs.declared.setting.OutputPlace.{OutputPlace}
use Rattle.span_tracing_steps.specs.SinkCalls.{DriveGives}
use Rattle.span_tracing_steps.specs.States.{stack_in}
use Rattle.span_tracing_laws.specs.runs.KeptStacks.{OutsAgree, StackStays}
use Rattle.span_tracing_laws.specs.runs.StepFollows.{FollowsStep, OutputsFollow, TraceIsReady, Traced, skeleton_of}
use Rattle.span_tracing_laws.specs.runs.Laws.{RunsFollow, SetupFollows}
use Rattle.span_tracing_laws.specs.runs.AnySteps.{AnyFollows, AnyStepsFollow}
use Rattle.span_tracing_laws.specs.runs.DrivenSinks.{DrivenAt, DrivenIf, drives}
use Rattle.span_tracing_laws.specs.runs.Runs.{AgreesPlain, Asking, Caching, Drove, Plain, Road, RunGives, SinksMeet, Starved, StepWithMask}
use Rattle.span_tracing_laws.specs.runs.Runs.{Waited}
use Rattle.span_tracing_laws.specs.runs.Runs.{StepBy, TurnBy, TurnGoes, TurnsGo, Went, called_at, called_if, lines_left, none_for}
use Rattle.span_tracing_laws.specs.runs.Runs.{outs_left, plain_after}
use Rattle.span_tracing_laws.specs.runs.Runs.{plain_reply, plain_run, replies_of, stack_turn, step_of, steps_of, turns_of}
use Rattle.span_tracing_laws.specs.runs.StepNotices.{Told, told_of, told_to}
use Rattle.span_tracing_laws.specs.runs.StepSettings.{OutputSetting, outs_with, setting_of, stack_with}
use Rattle.span_tracing_laws.proofs.runs.DrivenSinks.{drive_keeps, driven_stacks}
use Rattle.span_tracing_laws.proofs.runs.Settings.{set_agrees}

pub length_map : {A B : Type 0} (f : A → B) (xs : List A) → length (map f xs) ≡ length xs
length_map f [] = refl
length_map f (x ∷ xs) = ap suc (length_map f xs)

pub outs_count : {N : Type 0} (n : Ghosts N) (nss : List (List Notice)) (outs : List (Numbered N)) (fates : Fates) →
    length (outs_told n nss outs fates) ≡ length outs
outs_count n nss [] fates = refl
outs_count n nss (o ∷ outs) fates = ap suc (outs_count n (rest_of nss) outs (rest_of fates))

module _ {S : Type 0} (takes : S → At → PlainLine → S → Type 0) where
  -- what sinks take at one moment is a run of each
  lists_run : RunsCompose takes → (at : At) (lists : List (List PlainLine)) (olds news : List S) → TakesLists takes at lists olds news →
      RunsEach takes (map (lines_at at) lists) olds news
  lists_run compose at [] [] [] w = tt
  lists_run compose at [] [] (t ∷ ts) w = absurd w
  lists_run compose at [] (s ∷ ss) [] w = absurd w
  lists_run compose at [] (s ∷ ss) (t ∷ ts) w = absurd w
  lists_run compose at (l ∷ ls) [] [] w = absurd w
  lists_run compose at (l ∷ ls) [] (t ∷ ts) w = absurd w
  lists_run compose at (l ∷ ls) (s ∷ ss) [] w = absurd w
  lists_run compose at (l ∷ ls) (s ∷ ss) (t ∷ ts) w = (compose.once at l s t w.0, lists_run compose at ls ss ts w.1)

  sinks_count : (at : At) (lists : List (List PlainLine)) (olds news : List S) → TakesLists takes at lists olds news →
      length news ≡ length olds
  sinks_count at [] [] [] w = refl
  sinks_count at [] [] (t ∷ ts) w = absurd w
  sinks_count at [] (s ∷ ss) [] w = absurd w
  sinks_count at [] (s ∷ ss) (t ∷ ts) w = absurd w
  sinks_count at (l ∷ ls) [] [] w = absurd w
  sinks_count at (l ∷ ls) [] (t ∷ ts) w = absurd w
  sinks_count at (l ∷ ls) (s ∷ ss) [] w = absurd w
  sinks_count at (l ∷ ls) (s ∷ ss) (t ∷ ts) w = ap suc (sinks_count at ls ss ts w.1)

  -- no lines for as many outputs as sinks
  none_same : {N : Type 0} (outs : List (Numbered N)) (sinks : List S) → length sinks ≡ length outs → none_for outs ≡ no_lines sinks
  none_same [] [] e = refl
  none_same [] (s ∷ ss) e = absurd (cc)
  none_same (o ∷ outs) [] e = absurd (cc)
  none_same (o ∷ outs) (s ∷ ss) e = ap (λ (runs : List (List (At × PlainLine))). [] ∷ runs) (none_same outs ss (same_suc e))
    where
      same_suc : {a b : ℕ} → suc a ≡ suc b → a ≡ b
      same_suc e = cc

module _ {N E F S : Type 0} (n : Ghosts N) (line_of : E → Settings → PlainContext → PlainEvent → Option (List ℕ)) (g : FilterGhosts F)
    (takes : S → At → PlainLine → S → Type 0) (calls : ℕ → QueueCall → List S → Reply → List S → Type 0) (held : List S → Bool)
    (h : LayerGhosts (Lines N E)) (compose : RunsCompose takes) (each : EachComposes N E F takes)
    (counts : (number : ℕ) (call : QueueCall) (olds : List S) (reply : Reply) (news : List S) → calls number call olds reply news →
    length news ≡ length olds) where
  abbrev Stack : Type 0
  Stack = TraceStackValue N E F S

  -- each sink took its run
  abbrev SinksTake : Option Stack → Option Stack → List (List (At × PlainLine)) → Type 0
  SinksTake None None runs = runs ≡ []
  SinksTake None (Some y) runs = ⊥
  SinksTake (Some x) None runs = ⊥
  SinksTake (Some x) (Some y) runs = RunsEach takes runs x.sinks y.sinks

  abbrev Left : Option (Told N) → Fates → Option Stack → Option Stack → List (Numbered N) → Type 0
  Left told fates o p outs = OutsAgree n line_of g p (outs_left n told outs fates) ×
      SinksTake o p (lines_left n told outs fates)

  no_stack : (told : Option (Told N)) (fates : Fates) (outs : List (Numbered N)) → outs ≡ [] → Left told fates None None outs
  no_stack None fates outs e = (e, ap none_for e)
  no_stack (Some told) fates outs e = subst (λ (os : List (Numbered N)). Left (Some told) fates None None os) (sym e) (refl, refl)

  by_told : (told : Option (Told N)) (fates : Fates) (o p : Option Stack) (outs : List (Numbered N)) →
      OutputsFollow n line_of g takes told fates o p → OutsAgree n line_of g o outs → Left told fates o p outs
  by_told told fates None None outs w a = no_stack told fates outs a
  by_told told fates None (Some y) outs w a = absurd w
  by_told told fates (Some x) None outs w a = absurd w
  by_told None fates (Some x) (Some y) outs w a = (
    (w.agreed outs a.0, ap length w.sinks ∙ a.1),
    subst (λ (runs : List (List (At × PlainLine))). RunsEach takes runs x.sinks y.sinks) (sym (none_same takes outs x.sinks a.1))
        (subst (RunsEach takes (no_lines x.sinks) x.sinks) (sym w.sinks) (each.stays x.sinks)),
  )
  by_told (Some told) fates (Some x) (Some y) outs w a =
      let go = w outs a.0 in
      let later = outs_told n (told.lists outs) outs fates in (
        (
          go.agreed,
          sinks_count takes told.at (lines_offered later) x.sinks y.sinks go.sinks ∙ a.1 ∙
              sym (length_map at_rest later ∙ outs_count n (told.lists outs) outs fates),
        ),
        lists_run takes compose told.at (lines_offered later) x.sinks y.sinks go.sinks,
      )

  -- the sinks of a stack met what came to them at a step
  abbrev OneMeets : Option Stack → Option Stack → StackTurn → Type 0
  OneMeets None None t = Unit {0}
  OneMeets None (Some y) t = ⊥
  OneMeets (Some x) None t = ⊥
  OneMeets (Some x) (Some y) t = StackMeets takes calls t x.sinks y.sinks

  taken_meets : (o p : Option Stack) (runs : List (List (At × PlainLine))) → SinksTake o p runs → OneMeets o p (Offered runs)
  taken_meets None None runs w = tt
  taken_meets None (Some y) runs w = w
  taken_meets (Some x) None runs w = w
  taken_meets (Some x) (Some y) runs w = w

  abbrev TurnAgrees : Traced N E F S → StepWithMask → Reply → Traced N E F S → Plain N → Type 0
  TurnAgrees v t reply w p = (reply ≡ plain_reply n p t) × AgreesPlain n line_of g w (plain_after n p t) ×
      ((stack : ℕ) → OneMeets (stack_in v stack) (stack_in w stack) (stack_turn n p t stack))

  -- a setting leaves the sinks
  unset : (stack : ℕ) (c : Option OutputSetting) (o p : Option Stack) (runs : List (List (At × PlainLine))) →
      SinksTake (stack_with stack c o) p runs → SinksTake o p runs
  unset stack None o p runs w = w
  unset stack (Some c) o p runs w = by_if (c.at.stack == stack) o p w where
    by_if : (b : Bool) (o p : Option Stack) →
        SinksTake (if b then option_map (λ x. stack_set x c.at.place c.setting) o else o) p runs →
        SinksTake o p runs
    by_if false o p w = w
    by_if true None p w = w
    by_if true (Some x) None w = w
    by_if true (Some x) (Some y) w = w

  went_agrees : (v : Traced N E F S) (step : PlainStep) (reply : Reply) (w : Traced N E F S)
      (f : FollowsStep n line_of g takes h v step reply w) (k : Skeleton) (outs : ℕ → List (Numbered N)) → skeleton_of v ≡ k →
      ((stack : ℕ) → OutsAgree n line_of g (stack_in v stack) (outs stack)) →
      TurnAgrees v (Went step f.answers f.fates) reply w (record { skeleton = k; outs = outs })
  went_agrees v step reply w f k outs same a =
      let follows = subst (λ (s : Skeleton). (number : ℕ) → OutputsFollow n line_of g takes
      (told_to N number (told_of N s step f.answers)) f.fates (stack_with number (setting_of s step) (stack_in v number))
      (stack_in w number)) same f.outputs in
      let set = setting_of k step in
      let left = λ (stack : ℕ). by_told (told_to N stack (told_of N k step f.answers)) f.fates (stack_with stack set (stack_in v stack))
      (stack_in w stack) (outs_with stack set (outs stack)) (follows stack) (set_agrees n line_of g stack set (stack_in v stack)
      (outs stack) (a stack)) in (
        f.replied ∙ ap (λ (s : Skeleton). reply_of s step f.answers) same,
        (f.skeleton ∙ ap (λ (s : Skeleton). after s step f.answers) same, λ stack. (left stack).0),
        λ stack. taken_meets (stack_in v stack) (stack_in w stack) _
            (unset stack set (stack_in v stack) (stack_in w stack) _ (left stack).1),
      )

  stays : (o : Option Stack) (outs : List (Numbered N)) → OutsAgree n line_of g o outs → OneMeets o o (Offered (none_for outs))
  stays None outs a = tt
  stays (Some x) outs a = subst (λ (runs : List (List (At × PlainLine))). RunsEach takes runs x.sinks x.sinks)
      (sym (none_same takes outs x.sinks a.1)) (each.stays x.sinks)

  -- nothing came to any sink
  all_stay : (v w : Traced N E F S) (p : Plain N) → w ≡ v → AgreesPlain n line_of g v p →
      AgreesPlain n line_of g w p × ((stack : ℕ) → OneMeets (stack_in v stack) (stack_in w stack) (Offered (none_for (p.outs stack))))
  all_stay v w p same agrees =
      subst (λ (u : Traced N E F S). AgreesPlain n line_of g u p ×
      ((stack : ℕ) → OneMeets (stack_in v stack) (stack_in u stack) (Offered (none_for (p.outs stack))))) (sym same)
      (agrees, λ stack. stays (stack_in v stack) (p.outs stack) (agrees.1 stack))

  -- a call on a sink's queue
  driven_meets : (b : Bool) (place : ℕ) (call : QueueCall) (reply : Reply) (before after : Option Stack) (outs : List (Numbered N)) →
      DrivenIf calls b place call reply before after → OutsAgree n line_of g before outs →
      OneMeets before after (called_if b place call reply (Offered (none_for outs)))
  driven_meets false place call reply before after outs same agree =
      subst (λ (o : Option Stack). OneMeets before o (Offered (none_for outs))) (sym same) (stays before outs agree)
  driven_meets true place call reply None after outs none agree =
      subst (λ (o : Option Stack). OneMeets None o (Called place call reply)) (sym none) tt
  driven_meets true place call reply (Some x) after outs (y, goes, is) agree =
      subst (λ (o : Option Stack). OneMeets (Some x) o (Called place call reply)) (sym is) goes.1

  drove_meets : (o : Option OutputPlace) (stack : ℕ) (call : QueueCall) (reply : Reply) (before after : Option Stack)
      (outs : List (Numbered N)) → DrivenAt calls o call reply stack before after → OutsAgree n line_of g before outs →
      OneMeets before after (called_at o stack call reply (Offered (none_for outs)))
  drove_meets None stack call reply before after outs same agree =
      subst (λ (p : Option Stack). OneMeets before p (Offered (none_for outs))) (sym same) (stays before outs agree)
  drove_meets (Some at) stack call reply before after outs goes agree =
      driven_meets (at.stack == stack) at.place call reply before after outs goes agree

  drove_agrees : (v : Traced N E F S) (ask : SinkCall) (answer reply : Reply) (w : Traced N E F S) (p : Plain N) → reply ≡ answer →
      DriveGives (drives calls) v ask.sink ask.call reply w → AgreesPlain n line_of g v p → TurnAgrees v (Drove ask answer) reply w p
  drove_agrees v ask answer reply w p replied goes agrees =
      let keeps = drive_keeps n line_of g takes h calls counts v ask.sink ask.call reply w goes in
      let driven = driven_stacks n line_of g takes h calls counts v ask.sink ask.call reply w goes in (
        replied,
        (keeps.skeleton ∙ agrees.0, λ stack. keeps.agrees stack (p.outs stack) (agrees.1 stack)),
        λ stack. subst (λ (sinks : List ℕ). OneMeets (stack_in v stack) (stack_in w stack)
            (called_at (output_in sinks 0 ask.sink) stack ask.call answer (Offered (none_for (p.outs stack)))))
            (ap (λ (s : Skeleton). s.sinks) agrees.0)
            (subst (λ (r : Reply). OneMeets (stack_in v stack) (stack_in w stack)
            (called_at (output_in v.sinks 0 ask.sink) stack ask.call r (Offered (none_for (p.outs stack))))) replied
            (drove_meets (output_in v.sinks 0 ask.sink) stack ask.call reply (stack_in v stack) (stack_in w stack) (p.outs stack)
            (driven stack) (agrees.1 stack))),
      )

  turn_agrees : (v : Traced N E F S) (t : StepWithMask) (reply : Reply) (w : Traced N E F S) (p : Plain N) →
      TurnGoes n line_of g takes calls held h v t reply w → AgreesPlain n line_of g v p → TurnAgrees v t reply w p
  turn_agrees v (Went step a fates) reply w p (free, (f, answers, fated)) agrees =
      subst (λ (b : Answers). TurnAgrees v (Went step b fates) reply w p) answers
      (subst (λ (fs : Fates). TurnAgrees v (Went step f.answers fs) reply w p) fated
      (went_agrees v step reply w f p.skeleton p.outs agrees.0 agrees.1))
  turn_agrees v (Starved step) reply w p (free, (told, none, takes, same)) agrees =
      let still = all_stay v w p same agrees in (told, still.0, still.1)
  turn_agrees v (Waited step) reply w p (is, told, same) agrees = let still = all_stay v w p same agrees in (told, still.0, still.1)
  turn_agrees v (Drove ask answer) reply w p (replied, goes) agrees = drove_agrees v ask answer reply w p replied goes agrees

  -- being asked leaves the sinks
  asked_before : (o s p : Option Stack) (t : StackTurn) → StackStays o s → OneMeets s p t → OneMeets o p t
  asked_before None None p t stays w = w
  asked_before None (Some y) p t stays w = absurd stays
  asked_before (Some x) None p t stays w = absurd stays
  asked_before (Some x) (Some y) None t stays w = w
  asked_before (Some x) (Some y) (Some z) t stays w = subst (λ (ss : List S). StackMeets takes calls t ss z.sinks) stays.sinks w

  pub turn_by : (road : Road) (v : Traced N E F S) (t : StepWithMask) (reply : Reply) (w : Traced N E F S) (p : Plain N) →
      TurnBy n line_of g takes calls held h road v t reply w → AgreesPlain n line_of g v p → TurnAgrees v t reply w p
  turn_by Caching v t reply w p goes agrees = turn_agrees v t reply w p goes agrees
  turn_by Asking v t reply w p (start, keeps, goes) agrees =
      let one = turn_agrees start t reply w p goes
      (keeps.skeleton ∙ agrees.0, λ stack. (keeps.stacks stack).agrees (p.outs stack) (agrees.1 stack)) in (
        one.0,
        one.1,
        λ stack. asked_before (stack_in v stack) (stack_in start stack) (stack_in w stack) (stack_turn n p t stack)
            (keeps.stacks stack).stays (one.2 stack),
      )

  one_more : (o p q : Option Stack) (t : StackTurn) (ts : List StackTurn) → OneMeets o p t →
      SinksMeet n line_of g takes calls held p q ts → SinksMeet n line_of g takes calls held o q (t ∷ ts)
  one_more None None None t ts a b = tt
  one_more None None (Some z) t ts a b = absurd b
  one_more None (Some y) q t ts a b = absurd a
  one_more (Some x) None q t ts a b = absurd a
  one_more (Some x) (Some y) None t ts a b = absurd b
  one_more (Some x) (Some y) (Some z) t ts a b = (y.sinks, a, b)

  none_met : (o : Option Stack) → SinksMeet n line_of g takes calls held o o []
  none_met None = tt
  none_met (Some x) = refl

  abbrev RunAgrees : Traced N E F S → List StepWithMask → List Reply → Traced N E F S → Plain N → Type 0
  RunAgrees v turns replies w p = (replies ≡ replies_of n p turns) × AgreesPlain n line_of g w (plain_run n p turns) ×
      ((stack : ℕ) → SinksMeet n line_of g takes calls held (stack_in v stack) (stack_in w stack) (turns_of n p turns stack))

  run_agrees : (road : Road) (v : Traced N E F S) (turns : List StepWithMask) (replies : List Reply) (w : Traced N E F S) (p : Plain N) →
      TurnsGo n line_of g takes calls held h road v turns replies w → AgreesPlain n line_of g v p → RunAgrees v turns replies w p
  run_agrees road v [] [] w p same agrees = subst (λ (u : Traced N E F S). RunAgrees v [] [] u p) (sym same)
      (refl, agrees, λ stack. none_met (stack_in v stack))
  run_agrees road v [] (reply ∷ replies) w p goes agrees = absurd goes
  run_agrees road v (t ∷ ts) [] w p goes agrees = absurd goes
  run_agrees road v (t ∷ ts) (reply ∷ replies) w p (mid, first, rest) agrees =
      let one = turn_by road v t reply mid p first agrees in
      let others = run_agrees road mid ts replies w (plain_after n p t) rest one.1 in (
        ap (λ (r : Reply). r ∷ replies) one.0 ∙ ap (λ (rs : List Reply). plain_reply n p t ∷ rs) others.0,
        others.1,
        λ stack. one_more (stack_in v stack) (stack_in mid stack) (stack_in w stack) (stack_turn n p t stack)
            (turns_of n (plain_after n p t) ts stack) (one.2 stack) (others.2 stack),
      )

  module _ (sg : SubscriberGhosts Stack) (law : AnyStepsFollow n line_of g takes calls held h sg)
      (setup : SetupFollows n line_of g takes h sg) where
    abbrev TurnWith : Road → Traced N E F S → AnyStep → Reply → Traced N E F S → Type 0
    TurnWith road v step reply w = (t : StepWithMask) × (step_of t ≡ step) × TurnBy n line_of g takes calls held h road v t reply w ×
        TraceIsReady g h w

    abbrev TurnedTo : Traced N E F S → AnyStep → Reply → Traced N E F S → Type 0
    TurnedTo v step reply w = (t : StepWithMask) × (step_of t ≡ step) × TurnGoes n line_of g takes calls held h v t reply w

    turned : (v : Traced N E F S) (step : AnyStep) (reply : Reply) (w : Traced N E F S) →
        AnyFollows n line_of g takes calls held h v step reply w → TurnedTo v step reply w
    turned v (OfTrace step) reply w (inl (is, told, same)) = (Waited step, refl, (is, told, same))
    turned v (OfTrace step) reply w (inr (free, inl f)) = (Went step f.answers f.fates, refl, (free, (f, refl, refl)))
    turned v (OfTrace step) reply w (inr (free, inr f)) = (Starved step, refl, (free, f))
    turned v (OfQueue ask) reply w f = (Drove ask reply, refl, (refl, f.0))

    turn_with : (road : Road) (v : Traced N E F S) (step : AnyStep) (reply : Reply) (w : Traced N E F S) → TraceIsReady g h v →
        StepBy sg calls held road v step reply w → TurnWith road v step reply w
    turn_with Caching v step reply w ready gives =
        let one = law.each v step reply w ready gives in
        let turn = turned v step reply w one.0 in
        (turn.0, turn.1, turn.2, one.1)
    turn_with Asking v step reply w ready (start, asks, gives) =
        let asked = setup.asked v start ready asks in
        let one = law.each start step reply w asked.ready gives in
        let turn = turned start step reply w one.0 in
        (turn.0, turn.1, (start, asked.keeps, turn.2), one.1)

    abbrev Run : Road → Traced N E F S → List AnyStep → List Reply → Traced N E F S → Type 0
    Run road v steps replies w = (turns : List StepWithMask) × (steps_of turns ≡ steps) ×
        TurnsGo n line_of g takes calls held h road v turns replies w × TraceIsReady g h w

    runs : (road : Road) (v : Traced N E F S) (steps : List AnyStep) (replies : List Reply) (w : Traced N E F S) → TraceIsReady g h v →
        RunGives sg calls held road v steps replies w → Run road v steps replies w
    runs road v [] [] w ready same = ([], refl, same, subst (TraceIsReady g h) (sym same) ready)
    runs road v [] (reply ∷ replies) w ready goes = absurd goes
    runs road v (step ∷ steps) [] w ready goes = absurd goes
    runs road v (step ∷ steps) (reply ∷ replies) w ready (mid, first, rest) =
        let one = turn_with road v step reply mid ready first in
        let others = runs road mid steps replies w one.3 rest in (
          one.0 ∷ others.0,
          ap (λ (s : AnyStep). s ∷ steps_of others.0) one.1 ∙ ap (λ (ss : List AnyStep). step ∷ ss) others.1,
          (mid, one.2, others.2),
          others.3,
        )

    pub run_follows : RunsFollow n line_of g takes h sg calls held
    run_follows road v steps replies w ready goes =
        let run = runs road v steps replies w ready goes in (
          record { turns = run.0; each = run.1; goes = run.2; agreed = λ p agrees. run_agrees road v run.0 replies w p run.2 agrees },
          run.3,
        )
