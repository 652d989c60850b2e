-- Each output goes its own way.
use Rattle.std.proofs.Common.{◌≡◌, ℕ, zero, suc, Bool, true, false, List, [], ◌∷◌, ◌++◌, map, Option, Some, None, slice_get, refl, ap, sym}
use Rattle.std.proofs.Common.{◌∙◌, subst}
use Rattle.std.specs.Prelude.{◌==◌, if◌then◌else◌}
use Rattle.std.specs.Option.{option_map}
use Rattle.std.proofs.lemmas.Option.{slice_get-map}
use Rattle.tracing_core_fields.specs.PlainMetadata.{PlainMetadata}
use Rattle.tracing_core_moments.specs.declared.at.At.{At}
use Rattle.tracing_core_fields.specs.requests.PlainRequests.{PlainEvent}
use Rattle.span_registry_layers_store.specs.Registries.{RegistryValue}
use Rattle.event_formatter_text.specs.declared.format_fields.FormatFields.{Ghosts}
use Rattle.span_tracing_outputs.specs.OutputNotices.{Notice, event_told}
use Rattle.span_tracing_outputs.specs.OutputMachines.{Fate, PlainLine}
use Rattle.span_tracing_outputs.specs.OutputFolds.{Fates, Numbered, call_lists, event_lists, out_told, outs_told, rest_of}
use Rattle.span_tracing_outputs.specs.OutputSettings.{out_set, outs_set}
use Rattle.span_tracing_outputs.specs.TraceFollows.{at_rest, lines_offered}
use Rattle.span_tracing_outputs.specs.sinks.OutputRuns.{joined}
use Rattle.span_tracing_outputs.specs.sinks.Runs.{lines_at}
use Rattle.span_tracing_skeleton.specs.Looking.{callsite_of, known, reach, registry_at}
use Rattle.span_tracing_skeleton.specs.Machine.{or_same}
use Rattle.span_tracing_skeleton.specs.Order.{refusal_of}
use Rattle.span_tracing_skeleton.specs.PlainData.{PlainStep, Request, RecordRequest, GlobalStep, EventStep, EnabledStep, SpanStep}
use Rattle.span_tracing_skeleton.specs.PlainData.{RecordStep, FollowsFromStep, EnterStep, ExitStep, CloneStep, CloseStep, DefaultStep}
use Rattle.span_tracing_skeleton.specs.PlainData.{ResetStep, CloneHandleStep, ReleaseStep, SetStep}
use Rattle.span_tracing_skeleton.specs.Skeleton.{Skeleton, Answers, Unasked, Wanted, Dropped, Passed, Heard}
use Rattle.span_tracing_skeleton.specs.declared.call.SpanName.{SpanName}
use Rattle.span_tracing_skeleton.specs.declared.setting.Setting.{Setting}
use Rattle.span_tracing_skeleton.specs.declared.refusal.Refusal.{Refusal}
use Rattle.span_tracing_laws.specs.runs.Runs.{Plain, StepWithMask, Went, Drove, Starved, Waited, lines_left, lines_of, none_for, outs_left}
use Rattle.span_tracing_laws.specs.runs.Runs.{plain_after}
use Rattle.span_tracing_laws.specs.runs.Runs.{plain_run, turn_lines}
use Rattle.span_tracing_laws.specs.runs.StepSettings.{OutputSetting, outs_with, setting_of}
use Rattle.span_tracing_laws.specs.runs.StepNotices.{Told, event_told_by, span_told_by, values_told_by, told_by, told_of, told_to}
use Rattle.span_tracing.specs.OutputIndependence.{AllGoAlikeAt, AreAlikeAt, FatedAlikeAt, GoAlikeAt, OutputsGoAlone}
use Rattle.span_tracing_laws.specs.starved.StarvedCounts.{list_at}

-- an output's two lines of text, one behind the other
abbrev both : {A : Type 0} → Option (List A) → Option (List A) → Option (List A)
both (Some xs) (Some ys) = Some (xs ++ ys)
both (Some xs) None = None
both None ys = None

both_none : {A : Type 0} (xs : Option (List A)) → both xs None ≡ None
both_none None = refl
both_none (Some xs) = refl

joined_at : (xs ys : List (List (At × PlainLine))) (place : ℕ) →
    slice_get (joined xs ys) place ≡ both (slice_get xs place) (slice_get ys place)
joined_at [] ys place = refl
joined_at (x ∷ xs) [] place = sym (both_none (slice_get (x ∷ xs) place))
joined_at (x ∷ xs) (y ∷ ys) zero = refl
joined_at (x ∷ xs) (y ∷ ys) (suc place) = joined_at xs ys place

lines_offered_map : {N : Type 0} (outs : List (Numbered N)) → lines_offered outs ≡ map (λ (o : Numbered N). o.out.lines) outs
lines_offered_map [] = refl
lines_offered_map (o ∷ outs) = ap (λ ls. o.out.lines ∷ ls) (lines_offered_map outs)

list_at_nothing : {A : Type 0} (place : ℕ) → list_at {A = A} [] place ≡ []
list_at_nothing zero = refl
list_at_nothing (suc place) = list_at_nothing place

-- what an output is told stands at its place, and depends on that output alone
abbrev IsLocal : {N : Type 0} → ℕ → (List (Numbered N) → List (List Notice)) → Type 0
IsLocal {N = N} place lists = (outs others : List (Numbered N)) → slice_get outs place ≡ slice_get others place →
    list_at (lists outs) place ≡ list_at (lists others) place

abbrev notices_or_none : {N : Type 0} → (Numbered N → List Notice) → Option (Numbered N) → List Notice
notices_or_none ns None = []
notices_or_none ns (Some o) = ns o

mapped_at : {N : Type 0} (ns : Numbered N → List Notice) (outs : List (Numbered N)) (place : ℕ) →
    list_at (map ns outs) place ≡ notices_or_none ns (slice_get outs place)
mapped_at ns [] place = list_at_nothing place
mapped_at ns (o ∷ outs) zero = refl
mapped_at ns (o ∷ outs) (suc place) = mapped_at ns outs place

call_local : (N : Type 0) (place : ℕ) (ns : ℕ → List Notice) → IsLocal {N = N} place (call_lists ns)
call_local N place ns outs others e = mapped_at (λ o. ns o.number) outs place ∙ ap (notices_or_none (λ o. ns o.number)) e ∙
    sym (mapped_at (λ o. ns o.number) others place)

abbrev event_or_none : {N : Type 0} → (Bool → Numbered N → List Notice) → Option Bool → Option (Numbered N) → List Notice
event_or_none ns None o = []
event_or_none ns (Some told) None = []
event_or_none ns (Some told) (Some o) = ns told o

event_none : {N : Type 0} (ns : Bool → Numbered N → List Notice) (told : Option Bool) → event_or_none ns told None ≡ []
event_none ns None = refl
event_none ns (Some told) = refl

event_at : {N : Type 0} (x : RegistryValue) (at : At) (e : PlainEvent) (mask : List Bool) (outs : List (Numbered N)) (place : ℕ) →
    list_at (event_lists x at e mask outs) place ≡ event_or_none (λ told o. event_told x at e told o.number) (slice_get mask place)
    (slice_get outs place)
event_at x at e [] outs place = list_at_nothing place
event_at x at e (told ∷ mask) [] place = list_at_nothing place ∙
    sym (event_none (λ told o. event_told x at e told o.number) (slice_get (told ∷ mask) place))
event_at x at e (told ∷ mask) (o ∷ outs) zero = refl
event_at x at e (told ∷ mask) (o ∷ outs) (suc place) = event_at x at e mask outs place

event_local : (N : Type 0) (place : ℕ) (x : RegistryValue) (at : At) (e : PlainEvent) (mask : List Bool) →
    IsLocal {N = N} place (event_lists x at e mask)
event_local N place x at e mask outs others same =
    event_at x at e mask outs place ∙ ap (event_or_none (λ told o. event_told x at e told o.number) (slice_get mask place)) same ∙
    sym (event_at x at e mask others place)

abbrev IsLocalIf : {N : Type 0} → ℕ → Option (Told N) → Type 0
IsLocalIf place None = Unit {0}
IsLocalIf place (Some told) = IsLocal place told.lists

module _ (N : Type 0) (place : ℕ) where
  event_is_local : (s : Skeleton) (e : Request) (o : Option ℕ) (m : Option PlainMetadata) (a : Answers) →
      IsLocalIf place (event_told_by N s e o m a)
  event_is_local s e None m a = tt
  event_is_local s e (Some stack) None a = tt
  event_is_local s e (Some stack) (Some m) Unasked = tt
  event_is_local s e (Some stack) (Some m) (Wanted b) = tt
  event_is_local s e (Some stack) (Some m) Dropped = tt
  event_is_local s e (Some stack) (Some m) (Passed passed) = tt
  event_is_local s e (Some stack) (Some m) (Heard passed told) = λ outs others same. event_local N place (registry_at s stack) _ _ told
      outs others same

  span_is_local : (s : Skeleton) (e : Request) (o : Option ℕ) (m : Option PlainMetadata) (a : Answers) →
      IsLocalIf place (span_told_by N s e o m a)
  span_is_local s e None m a = tt
  span_is_local s e (Some stack) None a = tt
  span_is_local s e (Some stack) (Some m) Unasked = tt
  span_is_local s e (Some stack) (Some m) (Wanted b) = tt
  span_is_local s e (Some stack) (Some m) Dropped = tt
  span_is_local s e (Some stack) (Some m) (Passed passed) = λ outs others same. call_local N place _ outs others same
  span_is_local s e (Some stack) (Some m) (Heard passed told) = tt

  values_are_local : (s : Skeleton) (r : RecordRequest) (name : SpanName) (m : Option PlainMetadata) →
      IsLocalIf place (values_told_by N s r name m)
  values_are_local s r name None = tt
  values_are_local s r name (Some m) = λ outs others same. call_local N place _ outs others same

  step_is_local : (s : Skeleton) (step : PlainStep) (a : Answers) → IsLocalIf place (told_by N s step a)
  step_is_local s (GlobalStep handle) a = tt
  step_is_local s (EventStep e) a = event_is_local s e (reach s e.lane) (known s e.callsite false) a
  step_is_local s (EnabledStep call) a = tt
  step_is_local s (SpanStep e) a = span_is_local s e (reach s e.lane) (known s e.callsite true) a
  step_is_local s (RecordStep r) a = by_span r.span
    where
      by_span : (span : Option SpanName) → IsLocalIf place (told_by N s (RecordStep (record r { span = span })) a)
      by_span None = tt
      by_span (Some name) = values_are_local s (record r { span = Some name }) name (callsite_of s name)
  step_is_local s (FollowsFromStep call) a = tt
  step_is_local s (EnterStep call) a = by_span call.span
    where
      by_span : (span : Option SpanName) → IsLocalIf place (told_by N s (EnterStep (record call { span = span })) a)
      by_span None = tt
      by_span (Some name) = λ outs others same. call_local N place _ outs others same
  step_is_local s (ExitStep call) a = by_span call.span
    where
      by_span : (span : Option SpanName) → IsLocalIf place (told_by N s (ExitStep (record call { span = span })) a)
      by_span None = tt
      by_span (Some name) = λ outs others same. call_local N place _ outs others same
  step_is_local s (CloneStep call) a = tt
  step_is_local s (CloseStep call) a = by_span call.span
    where
      by_span : (span : Option SpanName) → IsLocalIf place (told_by N s (CloseStep (record call { span = span })) a)
      by_span None = tt
      by_span (Some name) = λ outs others same. call_local N place _ outs others same
  step_is_local s (DefaultStep call) a = tt
  step_is_local s (ResetStep call) a = tt
  step_is_local s (CloneHandleStep handle) a = tt
  step_is_local s (ReleaseStep handle) a = tt
  step_is_local s (SetStep call) a = tt

  told_unless : (refusal : Option Refusal) (told : Option (Told N)) → IsLocalIf place told → IsLocalIf place (or_same refusal None told)
  told_unless None told w = w
  told_unless (Some refusal) told w = tt

  told_if : (b : Bool) (told : Told N) → IsLocal place told.lists → IsLocalIf place (if b then Some told else None)
  told_if true told local = local
  told_if false told local = tt

  told_there : (stack : ℕ) (o : Option (Told N)) → IsLocalIf place o → IsLocalIf place (told_to N stack o)
  told_there stack None w = tt
  told_there stack (Some told) w = told_if (told.stack == stack) told w

  told_is_local : (s : Skeleton) (stack : ℕ) (step : PlainStep) (a : Answers) → IsLocalIf place (told_to N stack (told_of N s step a))
  told_is_local s stack step a = told_there stack (told_of N s step a)
      (told_unless (refusal_of s step) (told_by N s step a) (step_is_local s step a))

module _ {N : Type 0} (n : Ghosts N) where
  abbrev told_or_none : List Notice → List Fate → Option (Numbered N) → Option (Numbered N)
  told_or_none ns fates None = None
  told_or_none ns fates (Some o) = Some (out_told n o ns fates)

  outs_told_at : (nss : List (List Notice)) (outs : List (Numbered N)) (fates : Fates) (place : ℕ) →
      slice_get (outs_told n nss outs fates) place ≡ told_or_none (list_at nss place) (list_at fates place) (slice_get outs place)
  outs_told_at nss [] fates place = refl
  outs_told_at nss (o ∷ outs) fates zero = refl
  outs_told_at nss (o ∷ outs) fates (suc place) = outs_told_at (rest_of nss) outs (rest_of fates) place

module _ {N : Type 0} (n : Ghosts N) (place : ℕ) (outs others : List (Numbered N)) (fates other_fates : Fates)
    (same : slice_get outs place ≡ slice_get others place) where
  told_alike : (told : Told N) → IsLocal place told.lists → list_at fates place ≡ list_at other_fates place →
      slice_get (outs_told n (told.lists outs) outs fates) place ≡ slice_get (outs_told n (told.lists others) others other_fates) place
  told_alike told local fated =
      outs_told_at n (told.lists outs) outs fates place
      ∙ ap (λ ns. told_or_none n ns (list_at fates place) (slice_get outs place)) (local outs others same)
      ∙ ap (λ fs. told_or_none n (list_at (told.lists others) place) fs (slice_get outs place)) fated
      ∙ ap (told_or_none n (list_at (told.lists others) place) (list_at other_fates place)) same
      ∙ sym (outs_told_at n (told.lists others) others other_fates place)

  outs_alike : (told : Option (Told N)) → IsLocalIf place told → FatedAlikeAt place told fates other_fates →
      slice_get (outs_left n told outs fates) place ≡ slice_get (outs_left n told others other_fates) place
  outs_alike None local fated = same
  outs_alike (Some told) local fated =
      slice_get-map at_rest (outs_told n (told.lists outs) outs fates) place
      ∙ ap (option_map at_rest) (told_alike told local fated)
      ∙ sym (slice_get-map at_rest (outs_told n (told.lists others) others other_fates) place)

  offered_at : (at : At) (xs : List (Numbered N)) → slice_get (map (lines_at at) (lines_offered xs)) place ≡ option_map (lines_at at)
      (option_map (λ (o : Numbered N). o.out.lines) (slice_get xs place))
  offered_at at xs =
      slice_get-map (lines_at at) (lines_offered xs) place
      ∙ ap (λ ls. option_map (lines_at at) (slice_get ls place)) (lines_offered_map xs)
      ∙ ap (option_map (lines_at at)) (slice_get-map (λ (o : Numbered N). o.out.lines) xs place)

  none_alike : slice_get (none_for outs) place ≡ slice_get (none_for others) place
  none_alike = slice_get-map (λ (o : Numbered N). []) outs place ∙ ap (option_map (λ (o : Numbered N). [])) same ∙
      sym (slice_get-map (λ (o : Numbered N). []) others place)

  lines_alike : (told : Option (Told N)) → IsLocalIf place told → FatedAlikeAt place told fates other_fates →
      slice_get (lines_left n told outs fates) place ≡ slice_get (lines_left n told others other_fates) place
  lines_alike None local fated = none_alike
  lines_alike (Some told) local fated =
      offered_at told.at (outs_told n (told.lists outs) outs fates)
      ∙ ap (λ o. option_map (lines_at told.at) (option_map (λ (o : Numbered N). o.out.lines) o)) (told_alike told local fated)
      ∙ sym (offered_at told.at (outs_told n (told.lists others) others other_fates))

-- a setting reaches the output at its own place alone
abbrev set_or_none : {N : Type 0} → ℕ → ℕ → Setting → Option (Numbered N) → Option (Numbered N)
set_or_none zero zero setting o = option_map (out_set setting) o
set_or_none zero (suc place) setting o = o
set_or_none (suc at) zero setting o = o
set_or_none (suc at) (suc place) setting o = set_or_none at place setting o

set_none : {N : Type 0} (at place : ℕ) (setting : Setting) → set_or_none {N = N} at place setting None ≡ None
set_none zero zero setting = refl
set_none zero (suc place) setting = refl
set_none (suc at) zero setting = refl
set_none (suc at) (suc place) setting = set_none at place setting

set_at : {N : Type 0} (at place : ℕ) (setting : Setting) (outs : List (Numbered N)) →
    slice_get (outs_set at setting outs) place ≡ set_or_none at place setting (slice_get outs place)
set_at at place setting [] = sym (set_none at place setting)
set_at zero zero setting (o ∷ outs) = refl
set_at zero (suc place) setting (o ∷ outs) = refl
set_at (suc at) zero setting (o ∷ outs) = refl
set_at (suc at) (suc place) setting (o ∷ outs) = set_at at place setting outs

set_alike_if : {N : Type 0} (b : Bool) (at place : ℕ) (setting : Setting) (outs others : List (Numbered N)) →
    slice_get outs place ≡ slice_get others place →
    slice_get (if b then outs_set at setting outs else outs) place ≡ slice_get (if b then outs_set at setting others else others) place
set_alike_if false at place setting outs others same = same
set_alike_if true at place setting outs others same =
    set_at at place setting outs ∙ ap (set_or_none at place setting) same ∙ sym (set_at at place setting others)

set_alike : {N : Type 0} (stack place : ℕ) (c : Option OutputSetting) (outs others : List (Numbered N)) →
    slice_get outs place ≡ slice_get others place →
    slice_get (outs_with stack c outs) place ≡ slice_get (outs_with stack c others) place
set_alike stack place None outs others same = same
set_alike stack place (Some c) outs others same = set_alike_if (c.at.stack == stack) c.at.place place c.setting outs others same

module _ {N : Type 0} (n : Ghosts N) (stack place : ℕ) where
  -- a turn leaves the output at the place of the stack alike, and it offers the same lines
  abbrev TurnsAlike : Plain N → Plain N → StepWithMask → StepWithMask → Type 0
  TurnsAlike p q t u = AreAlikeAt stack place (plain_after n p t) (plain_after n q u) ×
      (slice_get (turn_lines n p t stack) place ≡ slice_get (turn_lines n q u stack) place)

  went : (s : Skeleton) (outs others : ℕ → List (Numbered N)) (step : PlainStep) (a : Answers) (fates other_fates : Fates) →
      slice_get (outs stack) place ≡ slice_get (others stack) place →
      FatedAlikeAt place (told_to N stack (told_of N s step a)) fates other_fates →
      TurnsAlike (record { skeleton = s; outs = outs }) (record { skeleton = s; outs = others }) (Went step a fates)
      (Went step a other_fates)
  went s outs others step a fates other_fates same fated =
      let told = told_to N stack (told_of N s step a) in
      let local = told_is_local N place s stack step a in
      let set = setting_of s step in
      let alike = set_alike stack place set (outs stack) (others stack) same in (
        record {
          skeleton = refl;
          out = outs_alike n place (outs_with stack set (outs stack)) (outs_with stack set (others stack)) fates other_fates alike told
              local
              fated;
        },
        lines_alike n place (outs_with stack set (outs stack)) (outs_with stack set (others stack)) fates other_fates alike told local
            fated,
      )

  turn_alike : (p q : Plain N) (t u : StepWithMask) → AreAlikeAt stack place p q → GoAlikeAt N p.skeleton stack place t u →
      TurnsAlike p q t u
  turn_alike p q (Went step a fates) (Went other b others) alike (same_step, same_answers, fated) =
      subst (λ k. TurnsAlike p (record { skeleton = k; outs = q.outs }) (Went step a fates) (Went other b others)) alike.skeleton
      (subst (λ st. TurnsAlike p (record { skeleton = p.skeleton; outs = q.outs }) (Went step a fates) (Went st b others)) same_step
      (subst (λ an. TurnsAlike p (record { skeleton = p.skeleton; outs = q.outs }) (Went step a fates) (Went step an others)) same_answers
      (went p.skeleton p.outs q.outs step a fates others alike.out fated)))
  turn_alike p q (Went step a fates) (Starved other) alike w = absurd w
  turn_alike p q (Went step a fates) (Waited other) alike w = absurd w
  turn_alike p q (Went step a fates) (Drove other reply) alike w = absurd w
  turn_alike p q (Starved step) (Went other b others) alike w = absurd w
  turn_alike p q (Starved step) (Waited other) alike w = absurd w
  turn_alike p q (Starved step) (Drove other reply) alike w = absurd w
  turn_alike p q (Waited step) (Went other b others) alike w = absurd w
  turn_alike p q (Waited step) (Starved other) alike w = absurd w
  turn_alike p q (Waited step) (Drove other reply) alike w = absurd w
  turn_alike p q (Drove ask answer) (Went other b others) alike w = absurd w
  turn_alike p q (Drove ask answer) (Starved other) alike w = absurd w
  turn_alike p q (Drove ask answer) (Waited other) alike w = absurd w
  turn_alike p q (Starved step) (Starved other) alike w = (alike, none_alike n place (p.outs stack) (q.outs stack) [] [] alike.out)
  turn_alike p q (Waited step) (Waited other) alike w = (alike, none_alike n place (p.outs stack) (q.outs stack) [] [] alike.out)
  turn_alike p q (Drove ask answer) (Drove other reply) alike w = (alike, none_alike n place (p.outs stack) (q.outs stack) [] [] alike.out)

  alone : (p q : Plain N) (ts us : List StepWithMask) → AreAlikeAt stack place p q → AllGoAlikeAt n stack place p ts us →
      AreAlikeAt stack place (plain_run n p ts) (plain_run n q us) ×
      (slice_get (lines_of n p ts stack) place ≡ slice_get (lines_of n q us stack) place)
  alone p q [] [] alike all = (alike, none_alike n place (p.outs stack) (q.outs stack) [] [] alike.out)
  alone p q [] (u ∷ us) alike all = absurd all
  alone p q (t ∷ ts) [] alike all = absurd all
  alone p q (t ∷ ts) (u ∷ us) alike (first, later) =
      let next = turn_alike p q t u alike first in
      let rest = alone (plain_after n p t) (plain_after n q u) ts us next.0 later in (
        rest.0,
        joined_at (turn_lines n p t stack) (lines_of n (plain_after n p t) ts stack) place
            ∙ ap (λ xs. both xs (slice_get (lines_of n (plain_after n p t) ts stack) place)) next.1
            ∙ ap (both (slice_get (turn_lines n q u stack) place)) rest.1
            ∙ sym (joined_at (turn_lines n q u stack) (lines_of n (plain_after n q u) us stack) place),
      )

pub outputs_go_alone : {N : Type 0} (n : Ghosts N) → OutputsGoAlone n
outputs_go_alone n stack place p q ts us alike all = alone n stack place p q ts us alike all
