-- Subscribers by their numbers, as one of them changes or goes.
use Rattle.std.proofs.Common.{◌≡◌, ℕ, ◌+◌, ◌<◌, ◌≤◌, Bool, true, false, List, [], ◌∷◌, ◌++◌, Some, None, refl, ap, sym, ◌∙◌, arith}
use Rattle.std.specs.Prelude.{if◌then◌else◌, ◌==◌}
use Rattle.tracing_core.specs.InterestsAndHints.{Each}
use Rattle.tracing_core.specs.Handles.{subscriber_with, changed, without, is_of}
use Rattle.tracing_core.specs.HubInvariant.{Ascends, serials}
use Rattle.tracing_core.specs.TableRows.{KeptSubscriber}
use Rattle.tracing_core.proofs.GivenAnswers.{entry_head, entry_tail}

pub if_either : {X : Type 0} (P : X → Type 0) (b : Bool) (x y : X) → (b ≡ true → P x) → (b ≡ false → P y) → P (if b then x else y)
if_either P true x y first second = first refl
if_either P false x y first second = second refl

pub by_bool : (b : Bool) {P : Type 0} → (b ≡ true → P) → (b ≡ false → P) → P
by_bool true first second = first refl
by_bool false first second = second refl

differ : (a k n : ℕ) → (a == n) ≡ true → (k == n) ≡ false → (a == k) ≡ false
differ a k n e f = grind arith

pub ascends_within : (least end : ℕ) (ns : List ℕ) → Ascends least ns end → least ≤ end
ascends_within least end [] up = up
ascends_within least end (n ∷ ns) up = let later : n + 1 ≤ end = ascends_within (n + 1) end ns up.1 in let first : least ≤ n = up.0 in
    omega arith

ascends_lower : (a b end : ℕ) (ns : List ℕ) → a ≤ b → Ascends b ns end → Ascends a ns end
ascends_lower a b end [] le up = omega arith
ascends_lower a b end (n ∷ ns) le up = let first : b ≤ n = up.0 in (omega arith, up.1)

pub ascends_append : (least end : ℕ) (ns : List ℕ) → Ascends least ns end → Ascends least (ns ++ end ∷ []) (end + 1)
ascends_append least end [] up = (up, omega arith)
ascends_append least end (n ∷ ns) up = (up.0, ascends_append (n + 1) end ns up.1)

module _ {S : Type 0} where
  pub serials_append : (es : List (KeptSubscriber S)) (x : KeptSubscriber S) → serials (es ++ x ∷ []) ≡ serials es ++ x.serial ∷ []
  serials_append [] x = refl
  serials_append (e ∷ es) x = ap (λ ns. e.serial ∷ ns) (serials_append es x)

  -- what is asked of each leaves its number
  pub each_serials : {K : Type 0} (R : K → KeptSubscriber S → KeptSubscriber S → K → Type 0) →
      ((k j : K) (x y : KeptSubscriber S) → R k x y j → y.serial ≡ x.serial) → (k last : K) (es fs : List (KeptSubscriber S)) →
      Each R k es fs last → serials fs ≡ serials es
  each_serials R same k last [] [] each = refl
  each_serials R same k last [] (f ∷ fs) each = absurd each
  each_serials R same k last (e ∷ es) [] each = absurd each
  each_serials R same k last (e ∷ es) (f ∷ fs) each =
      ap (λ n. n ∷ serials fs) (same k each.0 e f each.1) ∙ ap (λ ns. e.serial ∷ ns) (each_serials R same each.0 last es fs each.2)

  pub absent_above : (least end : ℕ) (es : List (KeptSubscriber S)) → Ascends least (serials es) end → subscriber_with end es ≡ None
  absent_above least end [] up = refl
  absent_above least end (e ∷ es) up =
      let within : e.serial + 1 ≤ end = ascends_within (e.serial + 1) end (serials es) up.1 in
      let away : is_of end e ≡ false = grind arith in
      entry_tail end e es away ∙ absent_above (e.serial + 1) end es up.1

  absent_below : (n least end : ℕ) (es : List (KeptSubscriber S)) → n < least → Ascends least (serials es) end → subscriber_with n es ≡ None
  absent_below n least end [] lt up = refl
  absent_below n least end (e ∷ es) lt up =
      let first : least ≤ e.serial = up.0 in
      let away : is_of n e ≡ false = grind arith in
      entry_tail n e es away ∙ absent_below n (e.serial + 1) end es (omega arith) up.1

  pub entry_appended : (n : ℕ) (es xs : List (KeptSubscriber S)) (e : KeptSubscriber S) → subscriber_with n es ≡ Some e →
      subscriber_with n (es ++ xs) ≡ Some e
  entry_appended n [] xs e there = absurd (cc)
  entry_appended n (y ∷ ys) xs e there =
      by_bool (is_of n y)
      (λ here. entry_head n y (ys ++ xs) here ∙ sym (entry_head n y ys here) ∙ there)
      (λ away. entry_tail n y (ys ++ xs) away ∙ entry_appended n ys xs e (sym (entry_tail n y ys away) ∙ there))

  pub entry_last : (n : ℕ) (es : List (KeptSubscriber S)) (x : KeptSubscriber S) → subscriber_with n es ≡ None → is_of n x ≡ true →
      subscriber_with n (es ++ x ∷ []) ≡ Some x
  entry_last n [] x none is = entry_head n x [] is
  entry_last n (y ∷ ys) x none is =
      by_bool (is_of n y)
      (λ here. let first : Some y ≡ None = sym (entry_head n y ys here) ∙ none in absurd (cc))
      (λ away. entry_tail n y (ys ++ x ∷ []) away ∙ entry_last n ys x (sym (entry_tail n y ys away) ∙ none) is)

  pub ascends_without : (n least end : ℕ) (es : List (KeptSubscriber S)) → Ascends least (serials es) end →
      Ascends least (serials (without n es)) end
  ascends_without n least end [] up = up
  ascends_without n least end (e ∷ es) up =
      if_either (λ xs. Ascends least (serials xs) end) (is_of n e) es (e ∷ without n es)
      (λ here. let first : least ≤ e.serial = up.0 in ascends_lower least (e.serial + 1) end (serials es) (omega arith) up.1)
      (λ away. (up.0, ascends_without n (e.serial + 1) end es up.1))

  -- who is gone isn't found
  pub without_own : (n least end : ℕ) (es : List (KeptSubscriber S)) → Ascends least (serials es) end →
      subscriber_with n (without n es) ≡ None
  without_own n least end [] up = refl
  without_own n least end (e ∷ es) up =
      if_either (λ xs. subscriber_with n xs ≡ None) (is_of n e) es (e ∷ without n es)
      (λ here. let same : e.serial ≡ n = grind arith in absent_below n (e.serial + 1) end es (omega arith) up.1)
      (λ away. entry_tail n e (without n es) away ∙ without_own n (e.serial + 1) end es up.1)

  pub without_other : (k n : ℕ) (es : List (KeptSubscriber S)) → (k == n) ≡ false → subscriber_with k (without n es) ≡ subscriber_with k es
  without_other k n [] apart = refl
  without_other k n (e ∷ es) apart =
      if_either (λ xs. subscriber_with k xs ≡ subscriber_with k (e ∷ es)) (is_of n e) es (e ∷ without n es)
      (λ here. let away : is_of k e ≡ false = differ e.serial k n here apart in sym (entry_tail k e es away))
      (λ away. by_bool (is_of k e)
      (λ is. entry_head k e (without n es) is ∙ sym (entry_head k e es is))
      (λ is. entry_tail k e (without n es) is ∙ without_other k n es apart ∙ sym (entry_tail k e es is)))

  -- a change of one that leaves its number
  module _ (n : ℕ) (change : KeptSubscriber S → KeptSubscriber S) (same : (x : KeptSubscriber S) → (change x).serial ≡ x.serial) where
    pub serials_changed : (es : List (KeptSubscriber S)) → serials (changed n change es) ≡ serials es
    serials_changed [] = refl
    serials_changed (e ∷ es) =
        if_either (λ xs. serials xs ≡ serials (e ∷ es)) (is_of n e) (change e ∷ es) (e ∷ changed n change es)
        (λ here. ap (λ k. k ∷ serials es) (same e))
        (λ away. ap (λ ns. e.serial ∷ ns) (serials_changed es))

    pub changed_own : (es : List (KeptSubscriber S)) (x : KeptSubscriber S) → subscriber_with n es ≡ Some x →
        subscriber_with n (changed n change es) ≡ Some (change x)
    changed_own [] x there = absurd (cc)
    changed_own (y ∷ ys) x there =
        if_either (λ xs. subscriber_with n xs ≡ Some (change x)) (is_of n y) (change y ∷ ys) (y ∷ changed n change ys)
        (λ here. let first : Some y ≡ Some x = sym (entry_head n y ys here) ∙ there in
        let found : y ≡ x = cc in
        entry_head n (change y) ys (ap (λ k. k == n) (same y) ∙ here) ∙ ap (λ (e : KeptSubscriber S). Some (change e)) found)
        (λ away. entry_tail n y (changed n change ys) away ∙ changed_own ys x (sym (entry_tail n y ys away) ∙ there))

    pub changed_other : (k : ℕ) (es : List (KeptSubscriber S)) → (k == n) ≡ false →
        subscriber_with k (changed n change es) ≡ subscriber_with k es
    changed_other k [] apart = refl
    changed_other k (y ∷ ys) apart =
        if_either (λ xs. subscriber_with k xs ≡ subscriber_with k (y ∷ ys)) (is_of n y) (change y ∷ ys) (y ∷ changed n change ys)
        (λ here. let away : is_of k y ≡ false = differ y.serial k n here apart in
        entry_tail k (change y) ys (ap (λ m. m == k) (same y) ∙ away) ∙ sym (entry_tail k y ys away))
        (λ away. by_bool (is_of k y)
        (λ is. entry_head k y (changed n change ys) is ∙ sym (entry_head k y ys is))
        (λ is. entry_tail k y (changed n change ys) is ∙ changed_other k ys apart ∙ sym (entry_tail k y ys is)))
