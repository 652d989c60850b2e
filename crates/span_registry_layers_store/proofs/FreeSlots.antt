-- Slots that are taken and let go, and the list of free ones.
use Rattle.std.proofs.Common.{◌≡◌, inl, inr, ℕ, zero, suc, ◌<◌, ◌==◌, ◌&&◌, List, [], ◌∷◌, ◌++◌, length, set, Bool, true, false, slice_get}
use Rattle.std.proofs.Common.{IfSome, Option, Some, refl, sym, ap, ◌∙◌, subst, arith}
use Rattle.std.specs.List.{AllByRecursion}
use Rattle.std.proofs.lemmas.Bool.{cases_eq, true≢false}
use Rattle.std.proofs.lemmas.Bool.Decides.{nat_tests}
use Rattle.std.proofs.lemmas.List.{length-set}
use Rattle.span_registry_layers_store.specs.SpanSlots.{Apart, AreFree, IsFree, holds, if_holds}
use Rattle.span_registry_layers_store.specs.declared.span_slot.SpanSlot.{SpanSlot}

pub set_same : {A : Type 0} (xs : List A) (k : ℕ) (a : A) → k < length xs → slice_get (set xs k a) k ≡ Some a
set_same [] k a h = absurd (omega arith)
set_same (x ∷ xs) zero a h = refl
set_same (x ∷ xs) (suc k) a h = set_same xs k a (omega arith)

pub set_other : {A : Type 0} (xs : List A) (k j : ℕ) (a : A) → (j ≡ k → ⊥) → slice_get (set xs k a) j ≡ slice_get xs j
set_other [] k j a other = refl
set_other (x ∷ xs) zero zero a other = absurd (other refl)
set_other (x ∷ xs) zero (suc j) a other = refl
set_other (x ∷ xs) (suc k) zero a other = refl
set_other (x ∷ xs) (suc k) (suc j) a other = set_other xs k j a (λ same. other (omega (arith, same)))

pub more_same : {A : Type 0} (xs : List A) (a : A) → slice_get (xs ++ a ∷ []) (length xs) ≡ Some a
more_same [] a = refl
more_same (x ∷ xs) a = more_same xs a

-- a slot that holds no other id
abbrev pub HoldsOnly : ℕ → SpanSlot → Type 0
HoldsOnly id s = (j : ℕ) → (j == id) ≡ false → holds j s ≡ false

and_none : (b c : Bool) → c ≡ false → (b && c) ≡ false
and_none true c h = h
and_none false c h = refl

turned : (a b : ℕ) → (a == b) ≡ false → (b == a) ≡ false
turned a b other = grind (arith, nat_tests, other)

pub only_open : (id : ℕ) (s : SpanSlot) → s.span.kin.id ≡ id → HoldsOnly id s
only_open id s same j other = and_none s.is_open (s.span.kin.id == j) (rw same (turned j id other))

pub only_closed : (id : ℕ) (s : SpanSlot) → s.is_open ≡ false → HoldsOnly id s
only_closed id s closed j other = rw closed refl

beside_at : (b : Bool) (j : ℕ) (s : SpanSlot) → holds j s ≡ false → if_holds j (Some s) ≡ []
beside_at b j s is = rw is refl

pub beside_set : (id k : ℕ) (slots : List SpanSlot) (s t : SpanSlot) → slice_get slots k ≡ Some s → k < length slots → HoldsOnly id s →
    HoldsOnly id t → (j m : ℕ) → (j == id) ≡ false → if_holds j (slice_get (set slots k t) m) ≡ if_holds j (slice_get slots m)
beside_set id k slots s t here within before after j m other = elim (cases_eq m k) [
  | inl same ↦ rw (same, set_same slots k t within, here, before j other, after j other) refl
  | inr apart ↦ ap (if_holds j) (set_other slots k m t apart)
]

-- a slot more changes no other
pub more_other : {A : Type 0} (xs : List A) (j : ℕ) (a : A) → (j ≡ length xs → ⊥) → slice_get (xs ++ a ∷ []) j ≡ slice_get xs j
more_other [] zero a other = absurd (other refl)
more_other [] (suc j) a other = refl
more_other (x ∷ xs) zero a other = refl
more_other (x ∷ xs) (suc j) a other = more_other xs j a (λ same. other (omega (arith, same)))

pub beside_more : (id : ℕ) (slots : List SpanSlot) (t : SpanSlot) → HoldsOnly id t → (j m : ℕ) → (j == id) ≡ false →
    if_holds j (slice_get (slots ++ t ∷ []) m) ≡ if_holds j (slice_get slots m)
beside_more id [] t after j zero other = rw (after j other) refl
beside_more id [] t after j (suc m) other = refl
beside_more id (s ∷ ss) t after j zero other = refl
beside_more id (s ∷ ss) t after j (suc m) other = beside_more id ss t after j m other

-- a free slot isn't the one of an open span
pub free_apart : (slots : List SpanSlot) (j k : ℕ) (s : SpanSlot) → slice_get slots k ≡ Some s → s.is_open ≡ true → IsFree slots j → j ≡
    k → ⊥
free_apart slots j k s here stands free same =
    let there : IfSome (slice_get slots k) (λ (t : SpanSlot). (t.is_open ≡ false) × (t.span.extensions ≡ [])) =
    subst (λ (m : ℕ). IfSome (slice_get slots m) (λ (t : SpanSlot). (t.is_open ≡ false) × (t.span.extensions ≡ []))) same free.0 in
    let closed : (s.is_open ≡ false) × (s.span.extensions ≡ []) = rw here at there in
    true≢false (sym stands ∙ closed.0)

pub still_free : (slots : List SpanSlot) (j k : ℕ) (t : SpanSlot) → (j ≡ k → ⊥) → IsFree slots j → IsFree (set slots k t) j
still_free slots j k t other free = (
  subst (λ (o : Option SpanSlot). IfSome o (λ (s : SpanSlot). (s.is_open ≡ false) × (s.span.extensions ≡ [])))
      (sym (set_other slots k j t other)) free.0,
  let within = free.1 in let same = length-set slots k t in omega (arith, within, same),
)

pub all_still_free : (slots : List SpanSlot) (k : ℕ) (s t : SpanSlot) (ks : List ℕ) → slice_get slots k ≡ Some s → s.is_open ≡ true →
    AreFree slots ks → AreFree (set slots k t) ks
all_still_free slots k s t [] here stands free = tt
all_still_free slots k s t (j ∷ ks) here stands free =
    (still_free slots j k t (free_apart slots j k s here stands free.0) free.0, all_still_free slots k s t ks here stands free.1)

abbrev Avoids : ℕ → List ℕ → Type 0
Avoids k ks = AllByRecursion (λ (j : ℕ). j ≡ k → ⊥) ks

-- without the last one
avoids_last : (j k : ℕ) (ks : List ℕ) → AllByRecursion (λ (i : ℕ). j ≡ i → ⊥) (ks ++ k ∷ []) → j ≡ k → ⊥
avoids_last j k [] apart = apart.0
avoids_last j k (i ∷ ks) apart = avoids_last j k ks apart.1

avoids_rest : (j k : ℕ) (ks : List ℕ) → AllByRecursion (λ (i : ℕ). j ≡ i → ⊥) (ks ++ k ∷ []) → AllByRecursion (λ (i : ℕ). j ≡ i → ⊥) ks
avoids_rest j k [] apart = tt
avoids_rest j k (i ∷ ks) apart = (apart.0, avoids_rest j k ks apart.1)

pub last_apart : (k : ℕ) (ks : List ℕ) → Apart (ks ++ k ∷ []) → Avoids k ks
last_apart k [] apart = tt
last_apart k (j ∷ ks) apart = (avoids_last j k ks apart.0, last_apart k ks apart.1)

pub rest_apart : (k : ℕ) (ks : List ℕ) → Apart (ks ++ k ∷ []) → Apart ks
rest_apart k [] apart = tt
rest_apart k (j ∷ ks) apart = (avoids_rest j k ks apart.0, rest_apart k ks apart.1)

pub last_free : (slots : List SpanSlot) (k : ℕ) (ks : List ℕ) → AreFree slots (ks ++ k ∷ []) → IsFree slots k
last_free slots k [] free = free.0
last_free slots k (j ∷ ks) free = last_free slots k ks free.1

pub rest_free : (slots : List SpanSlot) (k : ℕ) (ks : List ℕ) (t : SpanSlot) → AreFree slots (ks ++ k ∷ []) → Avoids k ks →
    AreFree (set slots k t) ks
rest_free slots k [] t free avoids = tt
rest_free slots k (j ∷ ks) t free avoids = (still_free slots j k t avoids.0 free.0, rest_free slots k ks t free.1 avoids.1)

-- one more at the end
pub more_free : (slots : List SpanSlot) (k : ℕ) (ks : List ℕ) → AreFree slots ks → IsFree slots k → AreFree slots (ks ++ k ∷ [])
more_free slots k [] free one = (one, tt)
more_free slots k (j ∷ ks) free one = (free.0, more_free slots k ks free.1 one)

avoids_more : (j k : ℕ) (ks : List ℕ) → AllByRecursion (λ (i : ℕ). j ≡ i → ⊥) ks → (j ≡ k → ⊥) →
    AllByRecursion (λ (i : ℕ). j ≡ i → ⊥) (ks ++ k ∷ [])
avoids_more j k [] apart other = (other, tt)
avoids_more j k (i ∷ ks) apart other = (apart.0, avoids_more j k ks apart.1 other)

pub more_apart : (slots : List SpanSlot) (k : ℕ) (s : SpanSlot) (ks : List ℕ) → slice_get slots k ≡ Some s → s.is_open ≡ true →
    AreFree slots ks → Apart ks → Apart (ks ++ k ∷ [])
more_apart slots k s [] here stands free apart = (tt, tt)
more_apart slots k s (j ∷ ks) here stands free apart =
    (avoids_more j k ks apart.0 (free_apart slots j k s here stands free.0), more_apart slots k s ks here stands free.1 apart.1)
