-- An output all of whose texts and lines find memory in a run goes as it does where everything finds memory.
use Rattle.std.proofs.Common.{◌≡◌, ◌∙◌, ◌==◌, ℕ, zero, suc, Bool, true, false, if◌then◌else◌, List, [], ◌∷◌, ◌++◌, map, Option, Some, None}
use Rattle.std.proofs.Common.{slice_get, refl, sym, ap}
use Rattle.std.specs.Option.{option_map}
use Rattle.std.proofs.lemmas.Option.{slice_get-map}
use Rattle.std.proofs.lemmas.Simd.{map-map}
use Rattle.tracing_core_moments.specs.declared.at.At.{At}
use Rattle.event_formatter_text.specs.declared.format_fields.FormatFields.{Ghosts}
use Rattle.span_tracing_outputs.specs.OutputMachines.{Fate, Fated, PlainLine, out_run, with_fates}
use Rattle.span_tracing_outputs.specs.OutputNotices.{Notice, heards}
use Rattle.span_tracing_outputs.specs.OutputFolds.{Fates, Numbered, outs_told, rest_of}
use Rattle.span_tracing_outputs.specs.OutputSettings.{changed_at, out_set, outs_set}
use Rattle.span_tracing_outputs.specs.TraceFollows.{at_rest, lines_offered}
use Rattle.span_tracing_outputs.specs.sinks.OutputRuns.{joined}
use Rattle.span_tracing_outputs.specs.sinks.Runs.{lines_at}
use Rattle.span_tracing_skeleton.specs.Skeleton.{Skeleton}
use Rattle.span_tracing_laws.specs.runs.Runs.{Plain, StepWithMask, Went, lines_left, lines_of, none_for, outs_left, plain_after, plain_run}
use Rattle.span_tracing_laws.specs.runs.Runs.{turn_lines}
use Rattle.span_tracing_laws.specs.runs.StepNotices.{Told, told_of, told_to}
use Rattle.span_tracing_laws.specs.runs.StepSettings.{OutputSetting, outs_with, setting_of}
use Rattle.span_tracing_laws.specs.starved.StarvedCounts.{IsWhole, as_whole, fated_by, list_at, run_fated, turn_fated}
use Rattle.span_tracing_laws.proofs.starved.ToldByNumbers.{ByNumbers, IsByNumbers, numbers_of, told_by_numbers}
use Rattle.span_tracing_laws.proofs.starved.WholeFates.{AllWhole, split_whole, with_whole}

-- what a change leaves of each it leaves of all
pub changed_same : {A B : Type 0} (f : A → B) (change : A → A) → ((x : A) → f (change x) ≡ f x) → (at : ℕ) (xs : List A) →
    map f (changed_at at change xs) ≡ map f xs
changed_same f change same at [] = refl
changed_same {B = B} f change same zero (x ∷ xs) = ap (λ (y : B). y ∷ map f xs) (same x)
changed_same {B = B} f change same (suc at) (x ∷ xs) = ap (λ (ys : List B). f x ∷ ys) (changed_same f change same at xs)

-- what stands at a place alone decides what is made of it
map_alike : {A B : Type 0} (f : A → B) (xs ys : List A) (place : ℕ) → slice_get xs place ≡ slice_get ys place →
    slice_get (map f xs) place ≡ slice_get (map f ys) place
map_alike f xs ys place same = slice_get-map f xs place ∙ ap (option_map f) same ∙ sym (slice_get-map f ys place)

-- a change at one place too, of outputs with the same numbers
changed_alike : {N : Type 0} (f : Numbered N → Numbered N) (at place : ℕ) (xs ys : List (Numbered N)) → numbers_of xs ≡ numbers_of ys →
    slice_get xs place ≡ slice_get ys place → slice_get (changed_at at f xs) place ≡ slice_get (changed_at at f ys) place
changed_alike f at place [] [] count same = refl
changed_alike f at place [] (y ∷ ys) count same = absurd (cc)
changed_alike f at place (x ∷ xs) [] count same = absurd (cc)
changed_alike f zero zero (x ∷ xs) (y ∷ ys) count same = ap (option_map f) same
changed_alike f zero (suc place) (x ∷ xs) (y ∷ ys) count same = same
changed_alike f (suc at) zero (x ∷ xs) (y ∷ ys) count same = same
changed_alike f (suc at) (suc place) (x ∷ xs) (y ∷ ys) count same = changed_alike f at place xs ys (cc) same

-- two outputs' lines of text, one behind the other
abbrev pub both : {A : Type 0} → Option (List A) → Option (List A) → Option (List A)
both (Some xs) (Some ys) = Some (xs ++ ys)
both (Some xs) None = None
both None ys = None

both_none : {A : Type 0} (xs : Option (List A)) → both xs None ≡ None
both_none None = refl
both_none (Some xs) = refl

pub joined_at : (xs ys : List (List (At × PlainLine))) (place : ℕ) →
    slice_get (joined xs ys) place ≡ both (slice_get xs place) (slice_get ys place)
joined_at [] ys place = refl
joined_at (x ∷ xs) [] place = sym (both_none (slice_get (x ∷ xs) place))
joined_at (x ∷ xs) (y ∷ ys) zero = refl
joined_at (x ∷ xs) (y ∷ ys) (suc place) = joined_at xs ys place

joined_alike : (xs us ys vs : List (List (At × PlainLine))) (place : ℕ) → slice_get xs place ≡ slice_get us place →
    slice_get ys place ≡ slice_get vs place → slice_get (joined xs ys) place ≡ slice_get (joined us vs) place
joined_alike xs us ys vs place first later =
    joined_at xs ys place ∙ ap (λ (run : Option (List (At × PlainLine))). both run (slice_get ys place)) first
    ∙ ap (both (slice_get us place)) later ∙ sym (joined_at us vs place)

pub offered_at : {N : Type 0} (outs : List (Numbered N)) (place : ℕ) →
    slice_get (lines_offered outs) place ≡ option_map (λ (o : Numbered N). o.out.lines) (slice_get outs place)
offered_at [] place = refl
offered_at (o ∷ outs) zero = refl
offered_at (o ∷ outs) (suc place) = offered_at outs place

pub none_at : {A : Type 0} (place : ℕ) → list_at {A = A} [] place ≡ []
none_at zero = refl
none_at (suc place) = none_at place

module _ {N : Type 0} (n : Ghosts N) where
  abbrev Outs : Type 0
  Outs = List (Numbered N)

  pub numbers_told : (nss : List (List Notice)) (outs : Outs) (fates : Fates) → numbers_of (outs_told n nss outs fates) ≡ numbers_of outs
  numbers_told nss [] fates = refl
  numbers_told nss (o ∷ outs) fates = ap (λ (ns : List ℕ). o.number ∷ ns) (numbers_told (rest_of nss) outs (rest_of fates))

  abbrev pub fold : List Fated → Numbered N → Numbered N
  fold ts o = record o { out = out_run n o.out ts }

  abbrev pub fold_at : List (List Notice) → List Fate → ℕ → Option (Numbered N) → Option (Numbered N)
  fold_at nss fates place o = option_map (fold (with_fates (heards (list_at nss place)) fates)) o

  pub told_at : (nss : List (List Notice)) (outs : Outs) (fates : Fates) (place : ℕ) →
      slice_get (outs_told n nss outs fates) place ≡ fold_at nss (list_at fates place) place (slice_get outs place)
  told_at nss [] fates place = refl
  told_at nss (o ∷ outs) fates zero = refl
  told_at nss (o ∷ outs) fates (suc place) = told_at (rest_of nss) outs (rest_of fates) place

  module _ (place : ℕ) where
    -- outputs with the same numbers, and the same one at the place
    abbrev Alike : Outs → Outs → Type 0
    Alike outs others = (numbers_of outs ≡ numbers_of others) × (slice_get outs place ≡ slice_get others place)

    with_alike : (stack : ℕ) (c : Option OutputSetting) (outs others : Outs) → Alike outs others →
        Alike (outs_with stack c outs) (outs_with stack c others)
    with_alike stack None outs others same = same
    with_alike stack (Some c) outs others same = by_if (c.at.stack == stack)
      where
        numbers : (xs : Outs) → numbers_of (outs_set c.at.place c.setting xs) ≡ numbers_of xs
        numbers xs = changed_same (λ (o : Numbered N). o.number) (out_set c.setting) (λ o. refl) c.at.place xs

        by_if : (b : Bool) → Alike (if b then outs_set c.at.place c.setting outs else outs)
            (if b then outs_set c.at.place c.setting others else others)
        by_if false = same
        by_if true = (
          numbers outs ∙ same.0 ∙ sym (numbers others),
          changed_alike (out_set c.setting) c.at.place place outs others same.0 same.1,
        )

    told_alike : (told : Told N) (fates : Fates) (outs others : Outs) → ByNumbers told.lists →
        AllWhole (fated_by (Some told) outs fates place) → Alike outs others →
        slice_get (outs_told n (told.lists outs) outs fates) place ≡ slice_get (outs_told n (told.lists others) others []) place
    told_alike told fates outs others by whole same =
        told_at (told.lists outs) outs fates place
        ∙ ap (λ (ts : List Fated). option_map (fold ts) (slice_get outs place))
        (with_whole (heards (list_at (told.lists outs) place)) (list_at fates place) whole)
        ∙ ap (fold_at (told.lists outs) [] place) same.1
        ∙ ap (λ (nss : List (List Notice)). fold_at nss [] place (slice_get others place)) (by outs others same.0)
        ∙ ap (λ (fs : List Fate). fold_at (told.lists others) fs place (slice_get others place)) (sym (none_at place))
        ∙ sym (told_at (told.lists others) others [] place)

    abbrev LeftAlike : Option (Told N) → Fates → Outs → Outs → Type 0
    LeftAlike told fates outs others = Alike (outs_left n told outs fates) (outs_left n told others []) ×
        (slice_get (lines_left n told outs fates) place ≡ slice_get (lines_left n told others []) place)

    left_alike : (told : Option (Told N)) (fates : Fates) (outs others : Outs) → IsByNumbers told →
        AllWhole (fated_by told outs fates place) → Alike outs others → LeftAlike told fates outs others
    left_alike None fates outs others by whole same = (same, map_alike _ outs others place same.1)
    left_alike (Some told) fates outs others by whole same =
        let one = outs_told n (told.lists outs) outs fates in
        let two = outs_told n (told.lists others) others [] in
        let number = λ (o : Numbered N). o.number in
        let alike = told_alike told fates outs others by whole same in (
          (
            map-map number at_rest one ∙ numbers_told (told.lists outs) outs fates ∙ same.0
                ∙ sym (map-map number at_rest two ∙ numbers_told (told.lists others) others []),
            map_alike at_rest one two place alike,
          ),
          map_alike (lines_at told.at) (lines_offered one) (lines_offered two) place
              (offered_at one place ∙ ap (option_map (λ (o : Numbered N). o.out.lines)) alike ∙ sym (offered_at two place)),
        )

    module _ (stack : ℕ) where
      abbrev plain : Skeleton → (ℕ → Outs) → Plain N
      plain s outs = record { skeleton = s; outs = outs }

      abbrev RunAlike : Plain N → Plain N → List StepWithMask → Type 0
      RunAlike p q ts = (slice_get (lines_of n p ts stack) place ≡ slice_get (lines_of n q (map as_whole ts) stack) place) ×
          (slice_get ((plain_run n p ts).outs stack) place ≡ slice_get ((plain_run n q (map as_whole ts)).outs stack) place)

      run_alike : (s : Skeleton) (outs others : ℕ → Outs) (ts : List StepWithMask) → Alike (outs stack) (others stack) →
          AllWhole (run_fated n (plain s outs) ts stack place) → RunAlike (plain s outs) (plain s others) ts
      run_alike s outs others [] same whole = (map_alike _ (outs stack) (others stack) place same.1, same.1)
      run_alike s outs others (Went step a fates ∷ ts) same whole =
          let p = plain_after n (plain s outs) (Went step a fates) in
          let q = plain_after n (plain s others) (Went step a []) in
          let wholes = split_whole (turn_fated (plain s outs) (Went step a fates) stack place) (run_fated n p ts stack place) whole in
          let set = setting_of s step in
          let one = left_alike (told_to N stack (told_of N s step a)) fates (outs_with stack set (outs stack))
          (outs_with stack set (others stack)) (told_by_numbers N s stack step a) wholes.0
          (with_alike stack set (outs stack) (others stack) same) in
          let later = run_alike p.skeleton p.outs q.outs ts one.0 wholes.1 in (
            joined_alike (turn_lines n (plain s outs) (Went step a fates) stack) (turn_lines n (plain s others) (Went step a []) stack)
                (lines_of n p ts stack) (lines_of n q (map as_whole ts) stack) place one.1 later.0,
            later.1,
          )
      run_alike s outs others (t ∷ ts) same whole =
          let later = run_alike s outs others ts same whole in (
            joined_alike (none_for (outs stack)) (none_for (others stack)) (lines_of n (plain s outs) ts stack)
                (lines_of n (plain s others) (map as_whole ts) stack) place (map_alike _ (outs stack) (others stack) place same.1) later.0,
            later.1,
          )

      pub is_whole : (p : Plain N) (ts : List StepWithMask) → AllWhole (run_fated n p ts stack place) → IsWhole n p ts stack place
      is_whole p ts whole =
          let alike = run_alike p.skeleton p.outs p.outs ts (refl, refl) whole in
          record { lines = alike.0; out = alike.1 }
