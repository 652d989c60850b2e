-- The counts of what found no memory, over the turns of a run.
use Rattle.std.proofs.Common.{◌≡◌, ◌∙◌, ◌==◌, ℕ, zero, suc, Bool, true, false, if◌then◌else◌, List, [], ◌∷◌, map, length, Option}
use Rattle.std.proofs.Common.{Some, None, slice_get, refl, sym, ap, subst}
use Rattle.std.specs.Option.{option_map}
use Rattle.std.proofs.lemmas.Simd.{map-map}
use Rattle.tracing_core_fields.specs.requests.PlainRequests.{PlainEvent}
use Rattle.tracing_core_moments.specs.declared.at.At.{At}
use Rattle.span_registry_layers.specs.OutputSlots.{marked}
use Rattle.span_registry_layers_layers.specs.declared.filter.Filter.{Ghosts as FilterGhosts}
use Rattle.span_registry_layers_layers.specs.declared.layer.Layer.{Ghosts as LayerGhosts}
use Rattle.event_formatter_text.specs.declared.format_fields.FormatFields.{Ghosts}
use Rattle.event_formatter_text.specs.declared.settings.Settings.{Settings}
use Rattle.event_formatter.specs.formats.Contexts.{PlainContext}
use Rattle.span_tracing_outputs.specs.OutputMachines.{Fated, PlainLine, starved_by, with_fates}
use Rattle.span_tracing_outputs.specs.OutputNotices.{Notice, heards}
use Rattle.span_tracing_outputs.specs.OutputFolds.{EachGoes, Fates, Numbered, rest_of}
use Rattle.span_tracing_outputs.specs.OutputSettings.{row_set, stack_set}
use Rattle.span_tracing_outputs.specs.TraceStacks.{TraceStackValue}
use Rattle.span_tracing_outputs.specs.Turns.{Lined, Lines}
use Rattle.span_tracing_outputs.specs.StackFollows.{LinedStack}
use Rattle.span_tracing_outputs.specs.sinks.OutputRuns.{EachComposes}
use Rattle.span_tracing_outputs.specs.sinks.Runs.{RunsCompose}
use Rattle.span_tracing_skeleton.specs.Looking.{output_in}
use Rattle.span_tracing_skeleton.specs.PlainData.{PlainStep}
use Rattle.span_tracing_skeleton.specs.Skeleton.{Skeleton, Answers}
use Rattle.span_tracing_skeleton.specs.declared.call.Reply.{Reply}
use Rattle.span_tracing_skeleton.specs.declared.queue_call.QueueCall.{QueueCall}
use Rattle.span_tracing_skeleton.specs.declared.setting.OutputPlace.{OutputPlace}
use Rattle.span_tracing_steps.specs.States.{stack_in}
use Rattle.span_tracing_laws.specs.runs.DrivenSinks.{DrivenAt, DrivenIf}
use Rattle.span_tracing_laws.specs.runs.KeptStacks.{OutsAgree, StackStays}
use Rattle.span_tracing_laws.specs.runs.Runs.{AgreesPlain, Asking, Caching, Drove, Plain, Road, Starved, StepWithMask, TurnBy, TurnGoes}
use Rattle.span_tracing_laws.specs.runs.Runs.{TurnsGo, Waited, Went, plain_after}
use Rattle.span_tracing_laws.specs.runs.StepFollows.{FollowsStep, OutputsFollow, Traced}
use Rattle.span_tracing_laws.specs.runs.StepNotices.{Told, told_of, told_to}
use Rattle.span_tracing_laws.specs.runs.StepSettings.{OutputSetting, outs_with, setting_of, stack_with}
use Rattle.span_tracing_laws.specs.starved.StarvedCounts.{NothingIsStarved, fated_by, list_at, run_fated, starved_in, starved_of}
use Rattle.span_tracing_laws.specs.starved.StarvedCounts.{turn_fated}
use Rattle.span_tracing_laws.proofs.runs.DrivenSinks.{driven_stacks}
use Rattle.span_tracing_laws.proofs.runs.Runs.{turn_by}
use Rattle.span_tracing_laws.proofs.runs.Settings.{set_agrees}
use Rattle.span_tracing_laws.proofs.starved.WholeFates.{all_stay, both_starved, rises}
use Rattle.span_tracing_laws.proofs.starved.WholeRuns.{changed_same, is_whole}

module _ {N E F S : Type 0} (n : Ghosts N) (line_of : E → Settings → PlainContext → PlainEvent → Option (List ℕ)) (g : FilterGhosts F)
    (takes : S → At → PlainLine → S → Type 0) (calls : ℕ → QueueCall → List S → Reply → List S → Type 0) (held : List S → Bool)
    (h : LayerGhosts (Lines N E)) (compose : RunsCompose takes) (each : EachComposes N E F takes)
    (counts : (number : ℕ) (call : QueueCall) (olds : List S) (reply : Reply) (news : List S) → calls number call olds reply news →
    length news ≡ length olds) where
  abbrev Stack : Type 0
  Stack = TraceStackValue N E F S

  module _ (stack place : ℕ) where
    -- the count of the output at the place goes on by these
    abbrev Rises : Option Stack → List Fated → Option Stack → Type 0
    Rises o ts q = (before : ℕ) → slice_get (starved_in o) place ≡ Some before →
        slice_get (starved_in q) place ≡ Some (starved_by ts before)

    abbrev Stays : Option Stack → Option Stack → Type 0
    Stays o q = starved_in q ≡ starved_in o

    still : (o q : Option Stack) → Stays o q → Rises o [] q
    still o q same before is = ap (λ (cs : List ℕ). slice_get cs place) same ∙ is

    rows_stay : (xs ys : List (Lined N E F)) → map (marked false) ys ≡ map (marked false) xs → map starved_of ys ≡ map starved_of xs
    rows_stay xs ys same =
        sym (map-map starved_of (marked false) ys) ∙ ap (map starved_of) same ∙ map-map starved_of (marked false) xs

    asked_stays : (o q : Option Stack) → StackStays o q → Stays o q
    asked_stays None None stays = refl
    asked_stays None (Some y) stays = absurd stays
    asked_stays (Some x) None stays = absurd stays
    asked_stays (Some x) (Some y) stays = rows_stay x.stack.rows y.stack.rows stays.rows

    set_stays : (c : Option OutputSetting) (o : Option Stack) → Stays o (stack_with stack c o)
    set_stays None o = refl
    set_stays (Some c) o = by_if (c.at.stack == stack) o
      where
        by_if : (b : Bool) (o : Option Stack) → Stays o (if b then option_map (λ x. stack_set x c.at.place c.setting) o else o)
        by_if false o = refl
        by_if true None = refl
        by_if true (Some x) = changed_same starved_of (row_set c.setting) (λ row. refl) c.at.place x.stack.rows

    driven_stays : (b : Bool) (at : ℕ) (call : QueueCall) (reply : Reply) (o q : Option Stack) → DrivenIf calls b at call reply o q →
        Stays o q
    driven_stays false at call reply o q same = ap starved_in same
    driven_stays true at call reply None q none = ap starved_in none
    driven_stays true at call reply (Some x) q (y, goes, is) =
        ap starved_in is ∙ ap (λ (s : LinedStack N E F). map starved_of s.rows) goes.0

    drove_stays : (at : Option OutputPlace) (call : QueueCall) (reply : Reply) (o q : Option Stack) →
        DrivenAt calls at call reply stack o q → Stays o q
    drove_stays None call reply o q same = ap starved_in same
    drove_stays (Some at) call reply o q goes = driven_stays (at.stack == stack) at.place call reply o q goes

    goes_at : (nss : List (List Notice)) (rows : List (Lined N E F)) (fates : Fates) (later : List (Lined N E F)) (at before : ℕ) →
        EachGoes n line_of g nss rows fates later → slice_get (map starved_of rows) at ≡ Some before →
        slice_get (map starved_of later) at ≡ Some (starved_by (with_fates (heards (list_at nss at)) (list_at fates at)) before)
    goes_at nss [] fates later at before goes is = absurd (cc)
    goes_at nss (l ∷ ls) fates [] at before goes is = absurd goes
    goes_at nss (l ∷ ls) fates (m ∷ ms) zero before goes is =
        let first : starved_of l ≡ before = cc in
        ap Some (goes.0.1 ∙ ap (starved_by (with_fates (heards (list_at nss zero)) (list_at fates zero))) first)
    goes_at nss (l ∷ ls) fates (m ∷ ms) (suc at) before goes is = goes_at (rest_of nss) ls (rest_of fates) ms at before goes.1 is

    by_told : (told : Option (Told N)) (fates : Fates) (o q : Option Stack) (outs : List (Numbered N)) →
        OutputsFollow n line_of g takes told fates o q → OutsAgree n line_of g o outs → Rises o (fated_by told outs fates place) q
    by_told told fates None q outs w a = λ before is. absurd (cc)
    by_told told fates (Some x) None outs w a = absurd w
    by_told None fates (Some x) (Some y) outs w a = still (Some x) (Some y) (rows_stay x.stack.rows y.stack.rows w.rows)
    by_told (Some told) fates (Some x) (Some y) outs w a =
        λ before is. goes_at (told.lists outs) x.stack.rows fates y.stack.rows place before (w outs a.0).goes is

    went_rises : (v : Traced N E F S) (step : PlainStep) (reply : Reply) (w : Traced N E F S)
        (f : FollowsStep n line_of g takes h v step reply w) (p : Plain N) → AgreesPlain n line_of g v p →
        Rises (stack_in v stack) (turn_fated p (Went step f.answers f.fates) stack place) (stack_in w stack)
    went_rises v step reply w f p agrees before is =
        let set = setting_of p.skeleton step in
        let follows = subst (λ (s : Skeleton). OutputsFollow n line_of g takes (told_to N stack (told_of N s step f.answers)) f.fates
        (stack_with stack (setting_of s step) (stack_in v stack)) (stack_in w stack)) agrees.0 (f.outputs stack) in
        by_told (told_to N stack (told_of N p.skeleton step f.answers)) f.fates (stack_with stack set (stack_in v stack)) (stack_in w stack)
        (outs_with stack set (p.outs stack)) follows (set_agrees n line_of g stack set (stack_in v stack) (p.outs stack) (agrees.1 stack))
        before (still (stack_in v stack) (stack_with stack set (stack_in v stack)) (set_stays set (stack_in v stack)) before is)

    same_stays : (v w : Traced N E F S) → w ≡ v → Rises (stack_in v stack) [] (stack_in w stack)
    same_stays v w same = still (stack_in v stack) (stack_in w stack) (ap (λ (u : Traced N E F S). starved_in (stack_in u stack)) same)

    turn_rises : (v : Traced N E F S) (t : StepWithMask) (reply : Reply) (w : Traced N E F S) (p : Plain N) →
        TurnGoes n line_of g takes calls held h v t reply w → AgreesPlain n line_of g v p →
        Rises (stack_in v stack) (turn_fated p t stack place) (stack_in w stack)
    turn_rises v (Went step a fates) reply w p (free, (f, answers, fated)) agrees =
        subst (λ (b : Answers). Rises (stack_in v stack) (turn_fated p (Went step b fates) stack place) (stack_in w stack)) answers
        (subst (λ (fs : Fates). Rises (stack_in v stack) (turn_fated p (Went step f.answers fs) stack place) (stack_in w stack)) fated
        (went_rises v step reply w f p agrees))
    turn_rises v (Starved step) reply w p (free, (told, none, room, same)) agrees = same_stays v w same
    turn_rises v (Waited step) reply w p (is, told, same) agrees = same_stays v w same
    turn_rises v (Drove ask answer) reply w p (replied, goes) agrees =
        still (stack_in v stack) (stack_in w stack) (drove_stays (output_in v.sinks 0 ask.sink) ask.call reply (stack_in v stack)
        (stack_in w stack) (driven_stacks n line_of g takes h calls counts v ask.sink ask.call reply w goes stack))

    rises_by : (road : Road) (v : Traced N E F S) (t : StepWithMask) (reply : Reply) (w : Traced N E F S) (p : Plain N) →
        TurnBy n line_of g takes calls held h road v t reply w → AgreesPlain n line_of g v p →
        Rises (stack_in v stack) (turn_fated p t stack place) (stack_in w stack)
    rises_by Caching v t reply w p goes agrees = turn_rises v t reply w p goes agrees
    rises_by Asking v t reply w p (start, keeps, goes) agrees =
        let asked = keeps.stacks stack in λ before is.
        turn_rises start t reply w p goes
        (keeps.skeleton ∙ agrees.0, λ number. (keeps.stacks number).agrees (p.outs number) (agrees.1 number)) before
        (still (stack_in v stack) (stack_in start stack) (asked_stays (stack_in v stack) (stack_in start stack) asked.stays) before is)

    run_rises : (road : Road) (v : Traced N E F S) (turns : List StepWithMask) (replies : List Reply) (w : Traced N E F S) (p : Plain N) →
        TurnsGo n line_of g takes calls held h road v turns replies w → AgreesPlain n line_of g v p →
        Rises (stack_in v stack) (run_fated n p turns stack place) (stack_in w stack)
    run_rises road v [] [] w p same agrees = same_stays v w same
    run_rises road v [] (reply ∷ replies) w p goes agrees = absurd goes
    run_rises road v (t ∷ ts) [] w p goes agrees = absurd goes
    run_rises road v (t ∷ ts) (reply ∷ replies) w p (mid, first, rest) agrees =
        let next = plain_after n p t in
        let one = turn_fated p t stack place in
        let after = turn_by n line_of g takes calls held h compose each counts road v t reply mid p first agrees in λ before is.
        run_rises road mid ts replies w next rest after.1 (starved_by one before) (rises_by road v t reply mid p first agrees before is)
        ∙ ap Some (sym (both_starved one (run_fated n next ts stack place) before))

  pub counts_starved : NothingIsStarved n line_of g takes calls held h
  counts_starved road v turns replies w goes p agrees stack place before is =
      let fated = run_fated n p turns stack place in
      let rose = run_rises stack place road v turns replies w p goes agrees before is in
      record {
        counts = rose;
        rises = rises fated before;
        whole = λ stays below.
            let same : starved_by fated before ≡ before = same_some (starved_by fated before) before (sym rose ∙ stays) in
            is_whole n place stack p turns (all_stay fated before below same);
      }
    where
      same_some : (a b : ℕ) → Some a ≡ Some b → a ≡ b
      same_some a b same = cc
