-- The lines of an output over a run, where each notice keeps what is asked of the output.
use Rattle.std.proofs.Common.{◌==◌, ℕ, zero, suc, Bool, true, false, if◌then◌else◌, List, [], ◌∷◌, map, Option, Some, None, IfSome}
use Rattle.std.proofs.ByRecursion.{All-append}
use Rattle.std.specs.List.{AllByRecursion}
use Rattle.std.specs.Prelude.{slice_get}
use Rattle.tracing_core_fields.specs.PlainMetadata.{PlainMetadata}
use Rattle.tracing_core_fields.specs.PlainValue.{PlainValue}
use Rattle.tracing_core_fields.specs.requests.PlainRequests.{PlainEvent, PlainValues}
use Rattle.tracing_core_moments.specs.declared.at.At.{At}
use Rattle.span_registry_layers_store.specs.Registries.{PlainSpan}
use Rattle.event_formatter_text.specs.declared.format_fields.FormatFields.{Ghosts}
use Rattle.span_tracing_outputs.specs.OutputNotices.{Notice, heards, seen_as}
use Rattle.span_tracing_outputs.specs.OutputMachines.{Fate, Fated, PlainLine, PlainOut, Seen, out_run, rested, with_fates}
use Rattle.span_tracing_outputs.specs.OutputFolds.{Fates, Numbered, first_of, outs_told, rest_of}
use Rattle.span_tracing_outputs.specs.OutputSettings.{out_set, outs_set}
use Rattle.span_tracing_outputs.specs.TraceFollows.{at_rest, lines_offered}
use Rattle.span_tracing_skeleton.specs.Looking.{known, named, output_at}
use Rattle.span_tracing_skeleton.specs.Machine.{or_same}
use Rattle.span_tracing_skeleton.specs.Order.{refusal_of}
use Rattle.span_tracing_skeleton.specs.PlainData.{PlainStep, Request, GlobalStep, EventStep, EnabledStep}
use Rattle.span_tracing_skeleton.specs.PlainData.{SpanStep, RecordStep}
use Rattle.span_tracing_skeleton.specs.PlainData.{FollowsFromStep, EnterStep, ExitStep, CloneStep, CloseStep, DefaultStep, ResetStep}
use Rattle.span_tracing_skeleton.specs.PlainData.{CloneHandleStep, ReleaseStep, SetStep}
use Rattle.span_tracing_skeleton.specs.Skeleton.{Answers, Skeleton}
use Rattle.span_tracing_skeleton.specs.declared.refusal.Refusal.{Refusal}
use Rattle.span_tracing_skeleton.specs.declared.setting.OutputPlace.{OutputPlace}
use Rattle.span_tracing_skeleton.specs.declared.setting.Setting.{Setting}
use Rattle.span_tracing_steps.specs.StackRequests.{own_values, request_of}
use Rattle.span_tracing_outputs.specs.sinks.OutputRuns.{joined}
use Rattle.span_tracing_outputs.specs.sinks.Runs.{lines_at}
use Rattle.span_tracing_laws.specs.machines.Lines.{AreLines, AreRun}
use Rattle.span_tracing_laws.specs.machines.Said.{HeardIs}
use Rattle.span_tracing_laws.specs.machines.Steps.{AnyBringsBy, BringsBy, IsSkeletonOf}
use Rattle.span_tracing_laws.specs.runs.Runs.{Drove, Plain, StepWithMask, Starved, Waited, Went, lines_left, lines_of, none_for, outs_left}
use Rattle.span_tracing_laws.specs.runs.Runs.{plain_after}
use Rattle.span_tracing_laws.specs.runs.Runs.{steps_of, turn_lines}
use Rattle.span_tracing_laws.specs.runs.StepSettings.{OutputSetting, outs_with, setting_by, setting_for, setting_of}
use Rattle.span_tracing_laws.specs.runs.StepNotices.{Told, told_of, told_to}
use Rattle.span_tracing_laws.proofs.machines.Skeletons.{after_is}
use Rattle.span_tracing_laws.proofs.machines.Told.{AreSaid, EachIsSaid, ListsAreSaid, step_is_told}

-- the setting that a step sets
module _ (A : Setting → Type 0) where
  abbrev pub IsSetting : Option OutputSetting → Type 0
  IsSetting o = IfSome o (λ c. A c.setting)

  for_is : (o : Option OutputPlace) (setting : Setting) → A setting → IsSetting (setting_for o setting)
  for_is None setting is = tt
  for_is (Some at) setting is = is

  unless_is : (o : Option Refusal) (set : Option OutputSetting) → IsSetting set → IsSetting (or_same o None set)
  unless_is None set is = is
  unless_is (Some refusal) set is = tt

  module _ (E R : Request → Type 0) (D : List (ℕ × PlainValue) → Type 0) where
    by_is : (s : Skeleton) (step : PlainStep) → BringsBy E R D A step → IsSetting (setting_by s step)
    by_is s (SetStep call) brings = for_is (output_at s call.output) call.setting brings
    by_is s (GlobalStep handle) brings = tt
    by_is s (EventStep e) brings = tt
    by_is s (EnabledStep call) brings = tt
    by_is s (SpanStep n) brings = tt
    by_is s (RecordStep r) brings = tt
    by_is s (FollowsFromStep call) brings = tt
    by_is s (EnterStep call) brings = tt
    by_is s (ExitStep call) brings = tt
    by_is s (CloneStep call) brings = tt
    by_is s (CloseStep call) brings = tt
    by_is s (DefaultStep call) brings = tt
    by_is s (ResetStep call) brings = tt
    by_is s (CloneHandleStep handle) brings = tt
    by_is s (ReleaseStep handle) brings = tt

    set_by_is : (s : Skeleton) (step : PlainStep) → BringsBy E R D A step → IsSetting (setting_of s step)
    set_by_is s step brings = unless_is (refusal_of s step) (setting_by s step) (by_is s step brings)

-- lines of several outputs
module _ (P : List ℕ → Type 0) where
  run_at : (at : At) (lines : List PlainLine) → AreLines P lines → AreRun P (lines_at at lines)
  run_at at [] all = tt
  run_at at (line ∷ lines) all = (all.0, run_at at lines all.1)

  joined_is : (one two : List (List (At × PlainLine))) (place : ℕ) → IfSome (slice_get one place) (AreRun P) →
      IfSome (slice_get two place) (AreRun P) → IfSome (slice_get (joined one two) place) (AreRun P)
  joined_is [] two place a b = tt
  joined_is (x ∷ xs) [] place a b = tt
  joined_is (x ∷ xs) (y ∷ ys) zero a b = All-append (λ (z : At × PlainLine). P z.1.bytes) x y a b
  joined_is (x ∷ xs) (y ∷ ys) (suc place) a b = joined_is xs ys place a b

  none_is : {N : Type 0} (outs : List (Numbered N)) (place : ℕ) → IfSome (slice_get (none_for outs) place) (AreRun P)
  none_is [] place = tt
  none_is (o ∷ outs) zero = tt
  none_is (o ∷ outs) (suc place) = none_is outs place

module _ (S : Seen → Type 0) (M : PlainMetadata → Type 0) (V : PlainValues → Type 0) (Q : PlainEvent → Type 0)
    (seen_as_is : (x : PlainSpan) → M x.metadata → S (seen_as x)) where
  abbrev AreFatedSaid : List Fated → Type 0
  AreFatedSaid ts = AllByRecursion (λ (t : Fated). HeardIs S M V Q t.heard) ts

  fated_is : (ns : List Notice) (fates : List Fate) → AreSaid S M V Q seen_as_is ns → AreFatedSaid (with_fates (heards ns) fates)
  fated_is [] fates all = tt
  fated_is (x ∷ ns) [] all = (all.0, fated_is ns [] all.1)
  fated_is (x ∷ ns) (f ∷ fates) all = (all.0, fated_is ns fates all.1)

  first_is : (nss : List (List Notice)) → EachIsSaid S M V Q seen_as_is nss → AreSaid S M V Q seen_as_is (first_of nss)
  first_is [] all = tt
  first_is (ns ∷ nss) all = all.0

  rest_is : (nss : List (List Notice)) → EachIsSaid S M V Q seen_as_is nss → EachIsSaid S M V Q seen_as_is (rest_of nss)
  rest_is [] all = tt
  rest_is (ns ∷ nss) all = all.1

  -- an output that stays as it is in what matters, over notices
  module _ {N : Type 0} (n : Ghosts N) (P : List ℕ → Type 0) (A : Setting → Type 0) (J : PlainOut N → Type 0)
      (lines_are : (o : PlainOut N) → J o → AreLines P o.lines) (rests : (o : PlainOut N) → J o → J (rested o))
      (goes : (o : PlainOut N) (ts : List Fated) → AreFatedSaid ts → J o → J (out_run n o ts))
      (sets : (o : Numbered N) (setting : Setting) → A setting → J o.out → J (out_set setting o).out) where
    abbrev StandsAt : List (Numbered N) → ℕ → Type 0
    StandsAt outs place = IfSome (slice_get outs place) (λ (o : Numbered N). J o.out)

    told_is : (nss : List (List Notice)) (outs : List (Numbered N)) (fates : Fates) (place : ℕ) → EachIsSaid S M V Q seen_as_is nss →
        StandsAt outs place → StandsAt (outs_told n nss outs fates) place
    told_is nss [] fates place all is = tt
    told_is nss (o ∷ outs) fates zero all is = goes o.out (with_fates (heards (first_of nss)) (first_of fates))
        (fated_is (first_of nss) (first_of fates) (first_is nss all)) is
    told_is nss (o ∷ outs) fates (suc place) all is = told_is (rest_of nss) outs (rest_of fates) place (rest_is nss all) is

    rested_is : (outs : List (Numbered N)) (place : ℕ) → StandsAt outs place → StandsAt (map at_rest outs) place
    rested_is [] place is = tt
    rested_is (o ∷ outs) zero is = rests o.out is
    rested_is (o ∷ outs) (suc place) is = rested_is outs place is

    offered_is : (at : At) (outs : List (Numbered N)) (place : ℕ) → StandsAt outs place →
        IfSome (slice_get (map (lines_at at) (lines_offered outs)) place) (AreRun P)
    offered_is at [] place is = tt
    offered_is at (o ∷ outs) zero is = run_at P at o.out.lines (lines_are o.out is)
    offered_is at (o ∷ outs) (suc place) is = offered_is at outs place is

    set_is : (outs : List (Numbered N)) (at place : ℕ) (setting : Setting) → A setting → StandsAt outs place →
        StandsAt (outs_set at setting outs) place
    set_is [] at place setting set is = tt
    set_is (o ∷ outs) zero zero setting set is = sets o setting set is
    set_is (o ∷ outs) zero (suc place) setting set is = is
    set_is (o ∷ outs) (suc at) zero setting set is = is
    set_is (o ∷ outs) (suc at) (suc place) setting set is = set_is outs at place setting set is

    set_if : (b : Bool) (outs : List (Numbered N)) (at place : ℕ) (setting : Setting) → A setting → StandsAt outs place →
        StandsAt (if b then outs_set at setting outs else outs) place
    set_if true outs at place setting set is = set_is outs at place setting set is
    set_if false outs at place setting set is = is

    with_is : (stack : ℕ) (c : Option OutputSetting) (outs : List (Numbered N)) (place : ℕ) → IsSetting A c → StandsAt outs place →
        StandsAt (outs_with stack c outs) place
    with_is stack None outs place set is = is
    with_is stack (Some c) outs place set is = set_if (c.at.stack == stack) outs c.at.place place c.setting set is

    module _ (C : List PlainMetadata → Type 0) (E R : Request → Type 0) (D : List (ℕ × PlainValue) → Type 0)
        (find : (ms : List PlainMetadata) (number : ℕ) → C ms → IfSome (named ms number) M)
        (event_is : (s : Skeleton) (e : Request) → C s.callsites → E e → IfSome (known s e.callsite false) (λ m. Q (request_of m e)))
        (span_is : (s : Skeleton) (r : Request) → C s.callsites → R r → IfSome (known s r.callsite true) (λ m. V (own_values m r.values)))
        (record_is : (ms : List PlainMetadata) (number : ℕ) (values : List (ℕ × PlainValue)) → C ms → D values →
        IfSome (named ms number) (λ m. V (own_values m values))) where
      by_told : (told : Option (Told N)) (outs : List (Numbered N)) (fates : Fates) (place : ℕ) →
          IfSome told (ListsAreSaid S M V Q seen_as_is) → StandsAt outs place →
          StandsAt (outs_left n told outs fates) place × IfSome (slice_get (lines_left n told outs fates) place) (AreRun P)
      by_told None outs fates place all is = (is, none_is P outs place)
      by_told (Some told) outs fates place all is =
          let later = told_is (told.lists outs) outs fates place (all outs) is in (
            rested_is (outs_told n (told.lists outs) outs fates) place later,
            offered_is told.at (outs_told n (told.lists outs) outs fates)
                place later,
          )

      -- what is told to one stack is told
      told_if : (same : Bool) (told : Told N) → ListsAreSaid S M V Q seen_as_is told →
          IfSome (if same then Some told else None) (ListsAreSaid S M V Q seen_as_is)
      told_if true told all = all
      told_if false told all = tt

      told_to_is : (stack : ℕ) (told : Option (Told N)) → IfSome told (ListsAreSaid S M V Q seen_as_is) →
          IfSome (told_to N stack told) (ListsAreSaid S M V Q seen_as_is)
      told_to_is stack None all = tt
      told_to_is stack (Some told) all = told_if (told.stack == stack) told all

      module _ (stack : ℕ) where
        abbrev Goes : Plain N → ℕ → Type 0
        Goes p place = IsSkeletonOf C M p.skeleton × StandsAt (p.outs stack) place

        turn_is : (p : Plain N) (step : PlainStep) (a : Answers) (fates : Fates) (place : ℕ) → Goes p place →
            BringsBy E R D A step →
            Goes (plain_after n p (Went step a fates)) place ×
            IfSome (slice_get (turn_lines n p (Went step a fates) stack) place) (AreRun P)
        turn_is p step a fates place is brings =
            let set = setting_of p.skeleton step in
            let by = by_told (told_to N stack (told_of N p.skeleton step a)) (outs_with stack set (p.outs stack)) fates place
            (told_to_is stack (told_of N p.skeleton step a)
            (step_is_told S M V Q seen_as_is N C E R D A find event_is span_is record_is p.skeleton step a is.0 brings))
            (with_is stack set (p.outs stack) place (set_by_is A E R D p.skeleton step brings) is.1) in
            ((after_is M C find p.skeleton step a is.0, by.0), by.1)

        pub run_is : (p : Plain N) (turns : List StepWithMask) (place : ℕ) → Goes p place →
            AllByRecursion (AnyBringsBy E R D A) (steps_of turns) → IfSome (slice_get (lines_of n p turns stack) place) (AreRun P)
        run_is p [] place is brings = none_is P (p.outs stack) place
        run_is p (Went step a fates ∷ ts) place is brings =
            let turn = turn_is p step a fates place is brings.0 in
            joined_is P (turn_lines n p (Went step a fates) stack) (lines_of n (plain_after n p (Went step a fates)) ts stack) place turn.1
            (run_is (plain_after n p (Went step a fates)) ts place turn.0 brings.1)
        run_is p (Starved step ∷ ts) place is brings = joined_is P (none_for (p.outs stack)) (lines_of n p ts stack) place
            (none_is P (p.outs stack) place) (run_is p ts place is brings.1)
        run_is p (Waited step ∷ ts) place is brings = joined_is P (none_for (p.outs stack)) (lines_of n p ts stack) place
            (none_is P (p.outs stack) place) (run_is p ts place is brings.1)
        run_is p (Drove ask answer ∷ ts) place is brings = joined_is P (none_for (p.outs stack)) (lines_of n p ts stack) place
            (none_is P (p.outs stack) place) (run_is p ts place is brings.1)
