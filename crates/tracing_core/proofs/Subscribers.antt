-- Entries by their numbers, and by their indices.
use Rattle.std.proofs.Common.{◌≡◌, ℕ, zero, suc, ◌<◌, ◌≤◌, true, false, List, ◌∷◌, [], length, get_or, set, Option, Some, None, refl, ap}
use Rattle.std.proofs.Common.{arith}
use Rattle.std.specs.List.{remove}
use Rattle.tracing_core.specs.TableRows.{KeptSubscriber}
use Rattle.std.specs.Prelude.{◌==◌, nat_le, slice_get}
use Rattle.tracing_core.specs.Handles.{is_of, subscriber_with, changed, without, hold_refusal, given_back, one_less, most}
use Rattle.tracing_core.specs.declared.refusal.HandleError.TheVariants.{Unknown, TooMany}

module _ {S : Type 0} (serial : ℕ) where
  pub entry_at : (es : List (KeptSubscriber S)) (i : ℕ) (d : KeptSubscriber S) → i < length es → is_of serial (get_or es i d) ≡ true →
      ((k : ℕ) → k < i → is_of serial (get_or es k d) ≡ false) → subscriber_with serial es ≡ Some (get_or es i d)
  entry_at [] i d inside here before = absurd (omega arith)
  entry_at (e ∷ es) zero d inside here before = rw here refl
  entry_at (e ∷ es) (suc i) d inside here before =
      rw (before 0 (omega arith)) (entry_at es i d (omega arith) here (λ k h. before (suc k) (omega arith)))

  pub changed_at : (f : KeptSubscriber S → KeptSubscriber S) (es : List (KeptSubscriber S)) (i : ℕ) (d : KeptSubscriber S) → i < length es →
      is_of serial (get_or es i d) ≡ true → ((k : ℕ) → k < i → is_of serial (get_or es k d) ≡ false) →
      changed serial f es ≡ set es i (f (get_or es i d))
  changed_at f [] i d inside here before = absurd (omega arith)
  changed_at f (e ∷ es) zero d inside here before = rw here refl
  changed_at f (e ∷ es) (suc i) d inside here before =
      rw (before 0 (omega arith)) (ap (λ xs. e ∷ xs) (changed_at f es i d (omega arith) here (λ k h. before (suc k) (omega arith))))

  pub without_at : (es : List (KeptSubscriber S)) (i : ℕ) (d : KeptSubscriber S) → i < length es → is_of serial (get_or es i d) ≡ true →
      ((k : ℕ) → k < i → is_of serial (get_or es k d) ≡ false) → without serial es ≡ remove es i
  without_at [] i d inside here before = absurd (omega arith)
  without_at (e ∷ es) zero d inside here before = rw here refl
  without_at (e ∷ es) (suc i) d inside here before =
      rw (before 0 (omega arith)) (ap (λ xs. e ∷ xs) (without_at es i d (omega arith) here (λ k h. before (suc k) (omega arith))))

  pub entry_absent : (es : List (KeptSubscriber S)) →
      ((k : ℕ) (d : KeptSubscriber S) → 0 ≤ k → k < length es → is_of serial (get_or es k d) ≡ false) → subscriber_with serial es ≡ None
  entry_absent [] none = refl
  entry_absent (e ∷ es) none = rw (none 0 e (omega arith) (omega arith))
      (entry_absent es (λ k d h1 h2. none (suc k) d (omega arith) (omega arith)))

-- what a index tells of handles
module _ {S : Type 0} (serial : Option ℕ) (number : ℕ) (es : List (KeptSubscriber S)) (is : serial ≡ Some number) where
  pub absent_refusal : subscriber_with number es ≡ None → hold_refusal serial es ≡ Some Unknown
  absent_refusal absent = rw (is, absent) refl

  pub absent_given : subscriber_with number es ≡ None → given_back serial es ≡ (None, es)
  absent_given absent = rw (is, absent) refl

  pub full_refusal : (e : KeptSubscriber S) → subscriber_with number es ≡ Some e → (e.handles == most) ≡ true →
      hold_refusal serial es ≡ Some TooMany
  full_refusal e there full = rw (is, there, full) refl

  pub no_refusal : (e : KeptSubscriber S) → subscriber_with number es ≡ Some e → (e.handles == most) ≡ false → hold_refusal serial es ≡ None
  no_refusal e there room = rw (is, there, room) refl

  pub last_given : (e : KeptSubscriber S) → subscriber_with number es ≡ Some e → nat_le e.handles 1 ≡ true →
      given_back serial es ≡ (Some e.subscriber, without number es)
  last_given e there last = rw (is, there, last) refl

  pub more_given : (e : KeptSubscriber S) → subscriber_with number es ≡ Some e → nat_le e.handles 1 ≡ false →
      given_back serial es ≡ (None, changed number one_less es)
  more_given e there more = rw (is, there, more) refl

-- what is read in range doesn't depend on the default
pub same_read : {A : Type 0} (xs : List A) (i : ℕ) (c d : A) → i < length xs → get_or xs i c ≡ get_or xs i d
same_read [] i c d inside = absurd (omega arith)
same_read (x ∷ xs) zero c d inside = refl
same_read (x ∷ xs) (suc i) c d inside = same_read xs i c d (omega arith)

pub pair_is : {A B : Type 0} (a b : A) (x y : B) → a ≡ b → x ≡ y → ◌≡◌ {A = A × B} (a, x) (b, y)
pair_is a b x y e h = cc

-- what was found, as the lemmas above want it
pub found_at : {S : Type 0} (serial : ℕ) (xs es : List (KeptSubscriber S)) (i : ℕ) (d : KeptSubscriber S) → xs ≡ es → (i < length xs) ×
    ((e : KeptSubscriber S) → is_of serial (get_or xs i e) ≡ true) ×
    ((k : ℕ) (e : KeptSubscriber S) → 0 ≤ k → k < i → is_of serial (get_or xs k e) ≡ false) → (i < length es) ×
    (is_of serial (get_or es i d) ≡ true) × ((k : ℕ) → k < i → is_of serial (get_or es k d) ≡ false)
found_at serial xs es i d e h = rw (← e) (h.0, h.1 d, λ k lt. h.2 k d (omega arith) lt)

pub absent_at : {S : Type 0} (serial : ℕ) (xs es : List (KeptSubscriber S)) → xs ≡ es →
    ((k : ℕ) (e : KeptSubscriber S) → 0 ≤ k → k < length xs → is_of serial (get_or xs k e) ≡ false) → subscriber_with serial es ≡ None
absent_at serial xs es e h = rw (← e) (entry_absent serial xs h)

pub changed_absent : {S : Type 0} (serial : ℕ) (f : KeptSubscriber S → KeptSubscriber S) (es : List (KeptSubscriber S)) →
    ((k : ℕ) (d : KeptSubscriber S) → 0 ≤ k → k < length es → is_of serial (get_or es k d) ≡ false) → changed serial f es ≡ es
changed_absent serial f [] none = refl
changed_absent serial f (e ∷ es) none = rw (none 0 e (omega arith) (omega arith))
    (ap (λ xs. e ∷ xs) (changed_absent serial f es (λ k d h1 h2. none (suc k) d (omega arith) (omega arith))))

pub inside_none : {A : Type 0} (xs : List A) (i : ℕ) → i < length xs → slice_get xs i ≡ None → ⊥
inside_none [] i inside e = absurd (omega arith)
inside_none (x ∷ xs) zero inside e = cc
inside_none (x ∷ xs) (suc i) inside e = inside_none xs i (omega arith) e

-- what is read at the index is the subscriber of the number
pub place_is : {S : Type 0} (serial : ℕ) (es : List (KeptSubscriber S)) (i : ℕ) → (i < length es) ×
    ((e : KeptSubscriber S) → is_of serial (get_or es i e) ≡ true) ×
    ((k : ℕ) (e : KeptSubscriber S) → 0 ≤ k → k < i → is_of serial (get_or es k e) ≡ false) → slice_get es i ≡ subscriber_with serial es
place_is serial [] i found = absurd (let h = found.0 in omega arith)
place_is serial (x ∷ xs) zero found = rw (found.1 x) refl
place_is serial (x ∷ xs) (suc i) found =
    rw (found.2 0 x (omega arith) (omega arith))
    (place_is serial xs i (let h = found.0 in omega arith, found.1, λ k e a b. found.2 (suc k) e (omega arith) (omega arith)))
