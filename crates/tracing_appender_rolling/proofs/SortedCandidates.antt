-- The last of the candidates that go, in the order in which they do, tells which of them go.
use Rattle.std.proofs.Common.{◌≡◌, ℕ, zero, suc, ◌+◌, ◌-◌, ◌<◌, ◌≤◌, List, [], ◌∷◌, length, map, get_or, Bool, true, false, not, cond, refl}
use Rattle.std.proofs.Common.{sym, ap, subst, ◌∙◌, arith, inl, inr, Ordering, Option, Some, None, Result, Ok, Err}
use Rattle.std.specs.Prelude.{◌⊎◌}
use Rattle.std.specs.Cmp.{IsStrictWeakOrder}
use Rattle.std.specs.Cmp.Lexicographic.{slice_cmp}
use Rattle.std.specs.List.{filter, sum_by}
use Rattle.std.specs.List.Sorted.{IsPermutation, IsSortedBy}
use Rattle.std.specs.Ordering.{nat_cmp}
use Rattle.std.specs.declared.cmp.Ordering.TheVariants.{Less, Equal, Greater}
use Rattle.std.proofs.lemmas.Bool.{ltb-true, lt-ltb}
use Rattle.std.proofs.lemmas.Cmp.{nat_list_cmp_total}
use Rattle.std.proofs.lemmas.List.{length-map}
use Rattle.std.proofs.lemmas.List.Sums.{sum_by-cons}
use Rattle.std.proofs.lemmas.List.Sorted.{IsPermutation-map, length_permutation, sorted_far, sum_by-IsPermutation}
use Rattle.tracing_core_moments.specs.Moments.{is_earlier}
use Rattle.tracing_appender_rolling.specs.folders.Contents.{Contents}
use Rattle.tracing_appender_rolling.specs.declared.faults.Faults.{Faults}
use Rattle.tracing_appender_rolling.specs.declared.retention.Candidate.{Candidate}
use Rattle.tracing_appender_rolling.specs.Retention.{PlainCandidate, candidate_of, is_before, before_count, goes, goes_by, GoesBy}
use Rattle.tracing_appender_rolling.specs.RetentionRemovals.{names_by, doomed, removed_all, LeftAt, Removes, RemovesDoomed}
use Rattle.tracing_appender_rolling.proofs.Oldest.{Earlier, NoEarlier, NameBefore, to_before, from_before, to_earlier, to_no_earlier}
use Rattle.tracing_appender_rolling.proofs.Oldest.{not_earlier, not_then, before_then}

-- whatever stands between: it comes behind the first, or before the last
between : (x y z : PlainCandidate) → is_before x z ≡ true → (is_before x y ≡ true) ⊎ (is_before y z ≡ true)
between x y z first = by_case (to_before x z first) (is_earlier x.made y.made) (is_earlier y.made z.made) refl refl
  where
    by_name : (o : Ordering) → slice_cmp nat_cmp x.name y.name ≡ o → NameBefore x z → NoEarlier x.made y.made → NoEarlier y.made z.made →
        (is_before x y ≡ true) ⊎ (is_before y z ≡ true)
    by_name Less e (late, less) one two = inl (from_before x y (inr (not_then x.made z.made y.made late two, e)))
    by_name Equal e (late, less) one two =
        inr (from_before y z (inr (not_then y.made x.made z.made one late, sym (nat_list_cmp_total.congr x.name y.name z.name e) ∙ less)))
    by_name Greater e (late, less) one two =
        let back : slice_cmp nat_cmp y.name x.name ≡ Less = grind (arith, nat_list_cmp_total.antisymm y.name x.name, e) in
        inr (from_before y z (inr (not_then y.made x.made z.made one late, nat_list_cmp_total.trans y.name x.name z.name back less)))

    by_case : Earlier x.made z.made ⊎ NameBefore x z → (a b : Bool) → is_earlier x.made y.made ≡ a → is_earlier y.made z.made ≡ b →
        (is_before x y ≡ true) ⊎ (is_before y z ≡ true)
    by_case way true b h k = inl (from_before x y (inl (to_earlier x.made y.made h)))
    by_case way false true h k = inr (from_before y z (inl (to_earlier y.made z.made k)))
    by_case (inl way) false false h k = inr (from_before y z (inl (not_earlier y.made x.made z.made (to_no_earlier x.made y.made h) way)))
    by_case (inr way) false false h k = by_name (slice_cmp nat_cmp x.name y.name) refl way (to_no_earlier x.made y.made h)
        (to_no_earlier y.made z.made k)

never_before : (x : PlainCandidate) → is_before x x ≡ true → ⊥
never_before x e = by_case (to_before x x e)
  where
    by_case : Earlier x.made x.made ⊎ NameBefore x x → ⊥
    by_case (inl (inl less)) = grind (arith, less)
    by_case (inl (inr (same, less))) = omega (arith, less)
    by_case (inr (late, less)) = let back = nat_list_cmp_total.antisymm x.name x.name in grind (arith, less, back)

pub candidates_rank : IsStrictWeakOrder (λ (a b : Candidate). is_before (candidate_of a) (candidate_of b))
candidates_rank = record {
  one_way = λ a b e. one_way (candidate_of a) (candidate_of b) e (is_before (candidate_of b) (candidate_of a)) refl;
  chain = λ a b c e f. chain (candidate_of a) (candidate_of b) (candidate_of c) e f (is_before (candidate_of a) (candidate_of c)) refl;
}
  where
    one_way : (x y : PlainCandidate) → is_before x y ≡ true → (b : Bool) → is_before y x ≡ b → is_before y x ≡ false
    one_way x y e false h = h
    one_way x y e true h = absurd (never_before x (before_then x y x e h))

    clash : (x y z : PlainCandidate) → is_before x y ≡ false → is_before y z ≡ false → (is_before x y ≡ true) ⊎ (is_before y z ≡ true) → ⊥
    clash x y z e f (inl h) = let wrong : false ≡ true = sym e ∙ h in cc
    clash x y z e f (inr h) = let wrong : false ≡ true = sym f ∙ h in cc

    chain : (x y z : PlainCandidate) → is_before x y ≡ false → is_before y z ≡ false → (b : Bool) → is_before x z ≡ b →
        is_before x z ≡ false
    chain x y z e f false h = h
    chain x y z e f true h = absurd (clash x y z e f (between x y z h))

-- how many stand before one doesn't depend on their order
abbrev counts : PlainCandidate → PlainCandidate → ℕ
counts x d = cond (is_before d x) 1 0

count_sum : (x : PlainCandidate) (cs : List PlainCandidate) → before_count x cs ≡ sum_by (counts x) cs
count_sum x [] = refl
count_sum x (c ∷ cs) = by_case (is_before c x) ∙ ap (λ n. counts x c + n) (count_sum x cs) ∙ sym (sum_by-cons (counts x) c cs)
  where
    by_case : (b : Bool) → cond b (suc (before_count x cs)) (before_count x cs) ≡ cond b 1 0 + before_count x cs
    by_case true = omega arith
    by_case false = omega arith

count_alike : (x : PlainCandidate) (all sorted : List Candidate) → IsPermutation all sorted →
    before_count x (map candidate_of sorted) ≡ before_count x (map candidate_of all)
count_alike x all sorted same =
    count_sum x (map candidate_of sorted)
    ∙ sum_by-IsPermutation (counts x) (map candidate_of all) (map candidate_of sorted) (IsPermutation-map candidate_of all sorted same)
    ∙ sym (count_sum x (map candidate_of all))

-- none from a place on stands before one, or all up to it do
count_most : (x : PlainCandidate) (d : Candidate) (s : List Candidate) (p : ℕ) →
    ((i : ℕ) → p ≤ i → i < length s → is_before (candidate_of (get_or s i d)) x ≡ false) → before_count x (map candidate_of s) ≤ p
count_most x d [] p none = omega arith
count_most x d (c ∷ cs) zero none =
    let rest = count_most x d cs zero (λ i le lt. none (suc i) (omega arith) (omega (arith, lt))) in
    subst (λ b. cond b (suc (before_count x (map candidate_of cs))) (before_count x (map candidate_of cs)) ≤ 0)
    (sym (none 0 (omega arith) (omega arith))) rest
count_most x d (c ∷ cs) (suc p) none = by_case (is_before (candidate_of c) x)
    (count_most x d cs p (λ i le lt. none (suc i) (omega (arith, le)) (omega (arith, lt))))
  where
    by_case : (b : Bool) → before_count x (map candidate_of cs) ≤ p →
        cond b (suc (before_count x (map candidate_of cs))) (before_count x (map candidate_of cs)) ≤ suc p
    by_case true le = omega (arith, le)
    by_case false le = omega (arith, le)

count_least : (x : PlainCandidate) (d : Candidate) (s : List Candidate) (p : ℕ) → p ≤ length s →
    ((i : ℕ) → i < p → is_before (candidate_of (get_or s i d)) x ≡ true) → p ≤ before_count x (map candidate_of s)
count_least x d s zero few all = omega arith
count_least x d [] (suc p) few all = omega (arith, few)
count_least x d (c ∷ cs) (suc p) few all =
    let rest = count_least x d cs p (omega (arith, few)) (λ i lt. all (suc i) (omega (arith, lt))) in
    subst (λ b. suc p ≤ cond b (suc (before_count x (map candidate_of cs))) (before_count x (map candidate_of cs)))
    (sym (all 0 (omega arith))) (omega (arith, rest))

count_all : (x : PlainCandidate) (s : List Candidate) → before_count x (map candidate_of s) ≤ length s
count_all x [] = omega arith
count_all x (c ∷ cs) = by_case (is_before (candidate_of c) x) (count_all x cs)
  where
    by_case : (b : Bool) → before_count x (map candidate_of cs) ≤ length cs →
        cond b (suc (before_count x (map candidate_of cs))) (before_count x (map candidate_of cs)) ≤ suc (length cs)
    by_case true le = omega (arith, le)
    by_case false le = omega (arith, le)

-- which go, by the last of them in a sorted list
module _ (limit : ℕ) (all sorted : List Candidate) (same : IsPermutation all sorted)
    (up : IsSortedBy (λ (a b : Candidate). is_before (candidate_of a) (candidate_of b)) sorted) (room : limit ≤ length all) where
  size : length (map candidate_of all) ≡ length all
  size = length-map all candidate_of

  sizes : length sorted ≡ length all
  sizes = length_permutation all sorted same

  few_go : (x : PlainCandidate) → before_count x (map candidate_of sorted) ≤ length all - limit → goes limit (map candidate_of all) x ≡ true
  few_go x few =
      lt-ltb (before_count x (map candidate_of all)) (length (map candidate_of all) + 1 - limit)
      (omega (arith, few, size, room, count_alike x all sorted same))

  many_stay : (x : PlainCandidate) → length all - limit + 1 ≤ before_count x (map candidate_of sorted) →
      goes limit (map candidate_of all) x ≡ false
  many_stay x many = by_case (goes limit (map candidate_of all) x) refl
    where
      by_case : (b : Bool) → goes limit (map candidate_of all) x ≡ b → goes limit (map candidate_of all) x ≡ false
      by_case false e = e
      by_case true e =
          let less = ltb-true (before_count x (map candidate_of all)) (length (map candidate_of all) + 1 - limit) e in
          absurd (omega (arith, less, many, size, room, count_alike x all sorted same))

  pub told_by_last : (last : Candidate) → length all - limit < length sorted → last ≡ get_or sorted (length all - limit) last →
      GoesBy limit (map candidate_of all) (Some (candidate_of last))
  told_by_last last lt is x = by_case (is_before (candidate_of last) x) refl
    where
      p : ℕ
      p = length all - limit

      clash : (d : Candidate) → is_before (candidate_of d) (candidate_of last) ≡ false → is_before (candidate_of last) x ≡ false →
          (b : Bool) → is_before (candidate_of d) x ≡ b → is_before (candidate_of d) x ≡ false
      clash d one two false e = e
      clash d one two true e = absurd (by_side (between (candidate_of d) (candidate_of last) x e))
        where
          by_side : (is_before (candidate_of d) (candidate_of last) ≡ true) ⊎ (is_before (candidate_of last) x ≡ true) → ⊥
          by_side (inl h) = let wrong : false ≡ true = sym one ∙ h in cc
          by_side (inr h) = let wrong : false ≡ true = sym two ∙ h in cc

      before_it : (d : Candidate) → is_before (candidate_of last) (candidate_of d) ≡ false → is_before (candidate_of last) x ≡ true →
          is_before (candidate_of d) x ≡ true
      before_it d one two = by_side (between (candidate_of last) (candidate_of d) x two)
        where
          by_side : (is_before (candidate_of last) (candidate_of d) ≡ true) ⊎ (is_before (candidate_of d) x ≡ true) →
              is_before (candidate_of d) x ≡ true
          by_side (inl h) = let wrong : false ≡ true = sym one ∙ h in cc
          by_side (inr h) = h

      by_case : (b : Bool) → is_before (candidate_of last) x ≡ b → goes limit (map candidate_of all) x ≡ not b
      by_case false e =
          few_go x (count_most x last sorted p (λ i le in_range.
          let d = get_or sorted i last in
          clash d (subst (λ (c : Candidate). is_before (candidate_of d) (candidate_of c) ≡ false) (sym is)
          (sorted_far _ candidates_rank sorted up p i last le in_range)) e (is_before (candidate_of d) x) refl))
      by_case true e =
          many_stay x (count_least x last sorted (p + 1) (omega (arith, lt)) (λ i less.
          let d = get_or sorted i last in
          before_it d (subst (λ (c : Candidate). is_before (candidate_of c) (candidate_of d) ≡ false) (sym is)
          (sorted_far _ candidates_rank sorted up i p last (omega (arith, less)) lt)) e))

  pub told_by_none : length sorted ≤ length all - limit → GoesBy limit (map candidate_of all) None
  told_by_none over x = let few = count_all x sorted in few_go x (omega (arith, over, few))

-- candidates that pass the same test
names_same : (f g : PlainCandidate → Bool) → ((c : PlainCandidate) → f c ≡ g c) → (cs : List PlainCandidate) → names_by f cs ≡ names_by g cs
names_same f g alike [] = refl
names_same f g alike (c ∷ cs) =
    ap (λ b. map (λ (x : PlainCandidate). x.name) (cond b (c ∷ filter f cs) (filter f cs))) (alike c) ∙
    by_case (g c) (names_same f g alike cs)
  where
    by_case : (b : Bool) → names_by f cs ≡ names_by g cs →
        map (λ (x : PlainCandidate). x.name) (cond b (c ∷ filter f cs) (filter f cs)) ≡ map (λ (x : PlainCandidate). x.name)
        (cond b (c ∷ filter g cs) (filter g cs))
    by_case true rest = ap (λ (ns : List (List ℕ)). c.name ∷ ns) rest
    by_case false rest = rest

names_none : (cs : List PlainCandidate) → names_by (λ c. false) cs ≡ []
names_none [] = refl
names_none (c ∷ cs) = names_none cs

-- fewer than the limit: none goes
none_goes : (limit : ℕ) (cs : List PlainCandidate) → length cs < limit → doomed limit cs ≡ []
none_goes limit cs few = names_same (goes limit cs) (λ c. false) (λ c. by_case c (goes limit cs c) refl) cs ∙ names_none cs
  where
    by_case : (c : PlainCandidate) (b : Bool) → goes limit cs c ≡ b → goes limit cs c ≡ false
    by_case c false e = e
    by_case c true e = let less = ltb-true (before_count c cs) (length cs + 1 - limit) e in absurd (omega (arith, less, few))

pub removes_few : (E : Type 0) (limit : ℕ) (cs : List PlainCandidate) (f : Faults) (known : Option Contents) → length cs < limit →
    RemovesDoomed {E = E} limit cs f known (Ok tt) f known
removes_few E limit cs f None few = refl
removes_few E limit cs f (Some c) few = subst (λ (names : List (List ℕ)). LeftAt (removed_all names (f, c)) f (Some c))
    (sym (none_goes limit cs few)) (refl, refl)

pub removes_told : (E : Type 0) (limit : ℕ) (cs : List PlainCandidate) (last : Option PlainCandidate) (f l : Faults)
    (known after : Option Contents) (r : Result (Unit {0}) E) → GoesBy limit cs last →
    Removes {E = E} (names_by (goes_by last) cs) f known r l after → RemovesDoomed {E = E} limit cs f known r l after
removes_told E limit cs last f l known after r told removes =
    by_case known r (subst (λ (names : List (List ℕ)). Removes {E = E} names f known r l after)
    (names_same (goes_by last) (goes limit cs) (λ c. sym (told c)) cs) removes)
  where
    by_case : (o : Option Contents) (s : Result (Unit {0}) E) → Removes {E = E} (doomed limit cs) f o s l after →
        RemovesDoomed {E = E} limit cs f o s l after
    by_case None (Ok done) h = h
    by_case None (Err e) h = h
    by_case (Some c) (Ok done) h = h
    by_case (Some c) (Err e) h = inr h
