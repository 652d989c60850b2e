-- How spans are handed over.
use Rattle.std.proofs.Common.{◌≡◌, ℕ, ◌-◌, List, [], ◌∷◌, ◌++◌, length, map, Option, Some, None, Result, Ok, Err, refl, subst, sym}
use native.Mathlib.Numerals.{unary_clauses}
use Rattle.std.specs.List.{last_or, slice_get}
use Rattle.std.specs.Option.{option_map}
use Rattle.std.specs.Result.{IsErrAnd}
use Rattle.std.proofs.lemmas.List.{nil_from_length}
use Rattle.span_registry_layers_store.specs.References.{plain_ref, ref_of}
use Rattle.span_registry_layers_store.specs.Registries.{PlainSpan}
use Rattle.span_registry_layers_store.specs.Views.{all_seen, one_or_none}
use Rattle.span_registry_layers_store.specs.declared.span_ref.SpanRef.{SpanRef}
use Rattle.span_registry_layers_layers.specs.Contexts.{ref_in, span_in}
use Rattle.span_registry_layers_layers.specs.FilterViews.{View}
use Rattle.event_formatter.specs.formats.EventSpans.{HandsEach, refs_at, all_handed, refused, handed}

last_behind : {A : Type 0} (x : A) (xs : List A) → slice_get (x ∷ xs) (length xs) ≡ last_or (Some x) xs
last_behind x [] = refl
last_behind x (y ∷ ys) = last_behind y ys

-- the last element is the one at the last place
pub last_is : {A : Type 0} (xs : List A) → slice_get xs (length xs - 1) ≡ last_or None xs
last_is [] = refl
last_is (x ∷ xs) = simp unary_clauses (last_behind x xs)

module _ {F E : Type 0} (calls : F → SpanRef → Result (Unit {0}) E → F → Type 0) (v : View) where
  -- one that isn't seen is passed over
  unseen_in : (found : Option PlainSpan) (later : List ℕ) (f : F) (answer : Result (Unit {0}) E) → None ≡ option_map (ref_in v) found →
      HandsEach calls (refs_at v later) f answer →
      HandsEach calls (map (ref_of v.registry v.mask) (one_or_none found ++ all_seen v.registry v.mask later)) f answer
  unseen_in None later f answer is rest = rest
  unseen_in (Some s) later f answer is rest = cc

  handed_in : (found : Option PlainSpan) (later : List ℕ) (span : SpanRef) (f next : F) (answer : Result (Unit {0}) E) →
      Some (plain_ref span) ≡ option_map (ref_in v) found → calls f span (Ok tt) next →
      HandsEach calls (refs_at v later) next answer →
      HandsEach calls (map (ref_of v.registry v.mask) (one_or_none found ++ all_seen v.registry v.mask later)) f answer
  handed_in None later span f next answer is call rest = cc
  handed_in (Some s) later span f next answer is call rest = let e : plain_ref span ≡ ref_in v s = cc in handed span e call rest

  refused_in : (found : Option PlainSpan) (later : List ℕ) (span : SpanRef) (f left : F) (error : E) →
      Some (plain_ref span) ≡ option_map (ref_in v) found → calls f span (Err error) left →
      HandsEach calls (map (ref_of v.registry v.mask) (one_or_none found ++ all_seen v.registry v.mask later)) f (Err error)
  refused_in None later span f left error is call = cc
  refused_in (Some s) later span f left error is call = let e : plain_ref span ≡ ref_in v s = cc in refused span e call

  -- the first of the ids is passed over, handed over or refused
  module _ {ids : List ℕ} where
    pub pass_over : {id : ℕ} {later : List ℕ} {f : F} {answer : Result (Unit {0}) E} → ids ≡ id ∷ later →
        None ≡ option_map (ref_in v) (span_in v id) → HandsEach calls (refs_at v later) f answer →
        HandsEach calls (refs_at v ids) f answer
    pass_over {id = id} {later = later} {f = f} {answer = answer} begins is rest =
        subst (λ (xs : List ℕ). HandsEach calls (refs_at v xs) f answer) (sym begins)
        (unseen_in (span_in v id) later f answer is rest)

    pub hand_over : {id : ℕ} {later : List ℕ} {span : SpanRef} {f next : F} {answer : Result (Unit {0}) E} → ids ≡ id ∷ later →
        Some (plain_ref span) ≡ option_map (ref_in v) (span_in v id) → calls f span (Ok tt) next →
        HandsEach calls (refs_at v later) next answer → HandsEach calls (refs_at v ids) f answer
    hand_over {id = id} {later = later} {span = span} {f = f} {next = next} {answer = answer} begins is call rest =
        subst (λ (xs : List ℕ). HandsEach calls (refs_at v xs) f answer) (sym begins)
        (handed_in (span_in v id) later span f next answer is call rest)

    pub refuse : {id : ℕ} {later : List ℕ} {span : SpanRef} {f left : F} {error : E} → (answer : Result (Unit {0}) E) → ids ≡ id ∷ later →
        Some (plain_ref span) ≡ option_map (ref_in v) (span_in v id) → calls f span (Err error) left →
        IsErrAnd answer (λ e. e ≡ error) → HandsEach calls (refs_at v ids) f answer
    refuse (Ok done) begins is call same = absurd same
    refuse {id = id} {later = later} {span = span} {f = f} {left = left} {error = error} (Err e) begins is call same =
        subst (λ (xs : List ℕ). HandsEach calls (refs_at v xs) f (Err e)) (sym begins)
        (subst (λ (x : E). HandsEach calls (refs_at v (id ∷ later)) f (Err x)) (sym same)
        (refused_in (span_in v id) later span f left error is call))

  pub all_done : (ids : List ℕ) {f : F} → length ids ≡ 0 → HandsEach calls (refs_at v ids) f (Ok tt)
  all_done ids {f = f} none =
      subst (λ (xs : List ℕ). HandsEach calls (refs_at v xs) f (Ok tt)) (sym (nil_from_length ids none)) all_handed
