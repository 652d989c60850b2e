-- No number comes back.
use Rattle.std.proofs.Common.{◌≡◌, ℕ, ◌+◌, ◌<◌, ◌≤◌, true, false, List, [], ◌∷◌, ◌++◌, Some, None, refl, ap, sym, ◌∙◌, subst, arith}
use Rattle.std.specs.Prelude.{◌==◌}
use Rattle.tracing_core.specs.Handles.{subscriber_with, without, is_of}
use Rattle.tracing_core.specs.CachePreservation.{IsLater}
use Rattle.tracing_core.specs.HubInvariant.{Ascends, serials}
use Rattle.tracing_core.specs.Table.{Table}
use Rattle.tracing_core.specs.TableRows.{KeptSubscriber}
use Rattle.tracing_core.proofs.GivenAnswers.{entry_head, entry_tail}
use Rattle.tracing_core.proofs.SubscriberNumbers.{by_bool, if_either, ascends_within}

head_same : (m n : ℕ) (ms ns : List ℕ) → m ∷ ms ≡ n ∷ ns → m ≡ n
head_same m n ms ns e = cc

tail_same : (m n : ℕ) (ms ns : List ℕ) → m ∷ ms ≡ n ∷ ns → ms ≡ ns
tail_same m n ms ns e = cc

module _ {S : Type 0} where
  not_here : (n : ℕ) (e : KeptSubscriber S) (es : List (KeptSubscriber S)) → subscriber_with n (e ∷ es) ≡ None → is_of n e ≡ true → ⊥
  not_here n e es none here = let first : Some e ≡ None = sym (entry_head n e es here) ∙ none in cc

  -- only the numbers count
  absent_alike : (n : ℕ) (es fs : List (KeptSubscriber S)) → serials fs ≡ serials es → subscriber_with n es ≡ None →
      subscriber_with n fs ≡ None
  absent_alike n [] [] same none = refl
  absent_alike n [] (f ∷ fs) same none = absurd (cc)
  absent_alike n (e ∷ es) [] same none = refl
  absent_alike n (e ∷ es) (f ∷ fs) same none =
      by_bool (is_of n e)
      (λ here. absurd (not_here n e es none here))
      (λ away.
      let other : is_of n f ≡ false = ap (λ k. k == n) (head_same f.serial e.serial (serials fs) (serials es) same) ∙ away in
      entry_tail n f fs other ∙ absent_alike n es fs (tail_same f.serial e.serial (serials fs) (serials es) same)
      (sym (entry_tail n e es away) ∙ none))

  absent_without : (n k : ℕ) (es : List (KeptSubscriber S)) → subscriber_with n es ≡ None → subscriber_with n (without k es) ≡ None
  absent_without n k [] none = none
  absent_without n k (e ∷ es) none =
      by_bool (is_of n e)
      (λ here. absurd (not_here n e es none here))
      (λ away.
      let rest : subscriber_with n es ≡ None = sym (entry_tail n e es away) ∙ none in
      if_either (λ xs. subscriber_with n xs ≡ None) (is_of k e) es (e ∷ without k es)
      (λ gone. rest)
      (λ stays. entry_tail n e (without k es) away ∙ absent_without n k es rest))

  absent_appended : (n : ℕ) (es : List (KeptSubscriber S)) (x : KeptSubscriber S) → subscriber_with n es ≡ None → is_of n x ≡ false →
      subscriber_with n (es ++ x ∷ []) ≡ None
  absent_appended n [] x none away = entry_tail n x [] away
  absent_appended n (e ∷ es) x none away =
      by_bool (is_of n e)
      (λ here. absurd (not_here n e es none here))
      (λ other. entry_tail n e (es ++ x ∷ []) other ∙ absent_appended n es x (sym (entry_tail n e es other) ∙ none) away)

  -- who lives has a number below the next one
  pub below_next : (n least end : ℕ) (es : List (KeptSubscriber S)) (e : KeptSubscriber S) → Ascends least (serials es) end →
      subscriber_with n es ≡ Some e → n < end
  below_next n least end [] e up there = absurd (cc)
  below_next n least end (x ∷ xs) e up there =
      by_bool (is_of n x)
      (λ here.
      let same : x.serial ≡ n = grind arith in
      let within : x.serial + 1 ≤ end = ascends_within (x.serial + 1) end (serials xs) up.1 in
      omega arith)
      (λ away. below_next n (x.serial + 1) end xs e up.1 (sym (entry_tail n x xs away) ∙ there))

module _ {S C : Type 0} where
  -- the same numbers
  pub later_alike : (t u : Table S C) → serials u.subscribers ≡ serials t.subscribers → u.next ≡ t.next → IsLater t u
  later_alike t u numbers next = record {
    next = omega arith;
    gone = λ n below none. absent_alike n t.subscribers u.subscribers numbers none;
  }

  -- one is gone
  pub later_without : (k : ℕ) (t u : Table S C) → u.subscribers ≡ without k t.subscribers → u.next ≡ t.next → IsLater t u
  later_without k t u left next =
      record {
        next = omega arith;
        gone = λ n below none. subst (λ (es : List (KeptSubscriber S)). subscriber_with n es ≡ None) (sym left)
            (absent_without n k t.subscribers none);
      }

  -- a new one has the next number
  pub later_added : (t u : Table S C) (x : KeptSubscriber S) → x.serial ≡ t.next →
      serials u.subscribers ≡ serials (t.subscribers ++ x ∷ []) → u.next ≡ t.next + 1 → IsLater t u
  later_added t u x number numbers next =
      record {
        next = omega arith;
        gone = λ n below none.
            let away : is_of n x ≡ false = grind arith in
            absent_alike n (t.subscribers ++ x ∷ []) u.subscribers numbers (absent_appended n t.subscribers x none away);
      }

  pub later_then : (t v u : Table S C) → IsLater t v → IsLater v u → IsLater t u
  later_then t v u a b =
      let first : t.next ≤ v.next = a.next in
      let second : v.next ≤ u.next = b.next in
      record { next = omega arith; gone = λ n below none. b.gone n (omega arith) (a.gone n below none) }
