-- Names rise in byte order with their periods.
use Rattle.std.proofs.Common.{arith, ◌≡◌, ◌∙◌, sym, ap, subst, refl, true, false, pos, ◌≤ℤ◌, ◌<ℤ◌, ◌<◌, ◌≤◌, ◌/◌, ◌%◌, ◌+◌, ℕ, ℤ, zero, suc}
use Rattle.std.proofs.Common.{Bool, cond, List, [], ◌∷◌, ◌++◌, Option, inl, inr}
use Rattle.std.specs.Prelude.{◌⊎◌, nat_lt, int_le}
use Rattle.std.proofs.lemmas.Bool.{ltb-true, ltb-false}
use Rattle.std.specs.Cmp.Lexicographic.{slice_cmp}
use Rattle.std.specs.Ordering.{nat_cmp, ordering_then}
use Rattle.std.specs.declared.cmp.Ordering.TheVariants.{Less, Equal}
use Rattle.std.specs.Cmp.{nat_cmp_is}
use Rattle.jiff_core.proofs.SignedLemmas.{signed_arith}
use Rattle.jiff_core.specs.Calendar.{days_in_month}
use Rattle.tracing_core_moments.specs.declared.period.PeriodKind.{PeriodKind}
use Rattle.tracing_core_moments.specs.declared.period.PeriodKind.TheVariants.{Minute, Hour, Day, Week, Whole}
use Rattle.tracing_core_moments.specs.Days.{is_date, is_second, day_at}
use Rattle.tracing_core_moments.specs.Calendar.{Civil, next_day, civil_after, civil_text, two_digits, four_digits, date_text, days_before}
use Rattle.tracing_core_moments.specs.Periods.{period_of}
use Rattle.tracing_core_moments.specs.Stamps.{clock_at, clock_part, hour_text, stamp, named_second}
use Rattle.tracing_core_moments.specs.Names.{around, before_date, after_date, name_at, NamesRise}
use Rattle.tracing_core_moments.proofs.Years.{dates_count, day_place_of}
use Rattle.tracing_core_moments.proofs.Names.{around_is, named_date}

-- at the first place where two texts differ the first one is less, and neither ends before it
abbrev pub Below : List ℕ → List ℕ → Type 0
Below [] ys = ⊥
Below (x ∷ xs) [] = ⊥
Below (x ∷ xs) (y ∷ ys) = (x < y) ⊎ ((x ≡ y) × Below xs ys)

below_more : (xs ys a b : List ℕ) → Below xs ys → Below (xs ++ a) (ys ++ b)
below_more [] ys a b h = absurd h
below_more (x ∷ xs) [] a b h = absurd h
below_more (x ∷ xs) (y ∷ ys) a b (inl lt) = inl lt
below_more (x ∷ xs) (y ∷ ys) a b (inr (e, h)) = inr (e, below_more xs ys a b h)

below_after : (p a b : List ℕ) → Below a b → Below (p ++ a) (p ++ b)
below_after [] a b h = h
below_after (x ∷ p) a b h = inr (refl, below_after p a b h)

below_then : (xs ys zs : List ℕ) → Below xs ys → Below ys zs → Below xs zs
below_then [] ys zs h k = absurd h
below_then (x ∷ xs) [] zs h k = absurd h
below_then (x ∷ xs) (y ∷ ys) [] h k = absurd k
below_then (x ∷ xs) (y ∷ ys) (z ∷ zs) (inl lt) (inl more) = inl (omega (arith, lt, more))
below_then (x ∷ xs) (y ∷ ys) (z ∷ zs) (inl lt) (inr (e, k)) = inl (omega (arith, lt, e))
below_then (x ∷ xs) (y ∷ ys) (z ∷ zs) (inr (e, h)) (inl more) = inl (omega (arith, e, more))
below_then (x ∷ xs) (y ∷ ys) (z ∷ zs) (inr (e, h)) (inr (f, k)) = inr (e ∙ f, below_then xs ys zs h k)

-- numbers
apart_or_same : (a b : ℕ) → a ≤ b → (a < b) ⊎ (a ≡ b)
apart_or_same a b le = by_case (nat_lt a b) refl
  where
    by_case : (t : Bool) → nat_lt a b ≡ t → (a < b) ⊎ (a ≡ b)
    by_case true e = inl (ltb-true a b e)
    by_case false e = inr (omega (arith, ltb-false a b e, le))

two_below : (n m : ℕ) → n < m → Below (two_digits n) (two_digits m)
two_below n m lt = by_tens (apart_or_same (n / 10) (m / 10) (omega (arith, lt)))
  where
    by_tens : ((n / 10) < (m / 10)) ⊎ ((n / 10) ≡ (m / 10)) → Below (two_digits n) (two_digits m)
    by_tens (inl less) = inl (omega (arith, less))
    by_tens (inr same) = inr (ap (λ k. 48 + k) same, inl (omega (arith, same, lt)))

pair_below : (a b c d : ℕ) → (a < c) ⊎ ((a ≡ c) × (b < d)) → Below (two_digits a ++ two_digits b) (two_digits c ++ two_digits d)
pair_below a b c d (inl lt) = below_more (two_digits a) (two_digits c) (two_digits b) (two_digits d) (two_below a c lt)
pair_below a b c d (inr (e, lt)) = subst (λ k. Below (two_digits a ++ two_digits b) (two_digits k ++ two_digits d)) e
    (below_after (two_digits a) (two_digits b) (two_digits d) (two_below b d lt))

four_below : (n m : ℕ) → n < m → Below (four_digits n) (four_digits m)
four_below n m lt = by_hundreds (apart_or_same (n / 100) (m / 100) (omega (arith, lt)))
  where
    by_hundreds : ((n / 100) < (m / 100)) ⊎ ((n / 100) ≡ (m / 100)) → Below (four_digits n) (four_digits m)
    by_hundreds (inl less) = pair_below (n / 100) (n % 100) (m / 100) (m % 100) (inl less)
    by_hundreds (inr same) = pair_below (n / 100) (n % 100) (m / 100) (m % 100) (inr (same, omega (arith, same, lt)))

-- dates
abbrev tail_text : ℕ → ℕ → List ℕ
tail_text month day = 45 ∷ (two_digits month ++ 45 ∷ two_digits day)

next_below : (c : Civil) → Below (civil_text c) (civil_text (next_day c))
next_below c = by_day (nat_lt c.day (days_in_month (pos c.year) c.month)) (nat_lt c.month 12)
  where
    by_day : (b d : Bool) → Below (civil_text c)
        (civil_text (cond b (record c { day = c.day + 1 })
        (cond d (record { year = c.year; month = c.month + 1; day = 1 }) (record { year = c.year + 1; month = 1; day = 1 }))))
    by_day true d = below_after (four_digits c.year) (tail_text c.month c.day) (tail_text c.month (c.day + 1))
        (inr (
          refl,
          below_after (two_digits c.month) (45 ∷ two_digits c.day) (45 ∷ two_digits (c.day + 1))
              (inr (refl, two_below c.day (c.day + 1) (omega arith))),
        ))
    by_day false true = below_after (four_digits c.year) (tail_text c.month c.day) (tail_text (c.month + 1) 1)
        (inr (
          refl,
          below_more (two_digits c.month) (two_digits (c.month + 1)) (45 ∷ two_digits c.day) (45 ∷ two_digits 1)
              (two_below c.month (c.month + 1) (omega arith)),
        ))
    by_day false false = below_more (four_digits c.year) (four_digits (c.year + 1)) (tail_text c.month c.day) (tail_text 1 1)
        (four_below c.year (c.year + 1) (omega arith))

after_below : (n : ℕ) → Below (civil_text (civil_after n)) (civil_text (civil_after (suc n)))
unfolding civil_after
after_below n = next_below (civil_after n)

counted_below : (n m : ℕ) → n < m → Below (civil_text (civil_after n)) (civil_text (civil_after m))
counted_below n zero lt = absurd (omega (arith, lt))
counted_below n (suc m) lt = by_last (λ less. counted_below n m less) (apart_or_same n m (omega (arith, lt)))
  where
    by_last : (n < m → Below (civil_text (civil_after n)) (civil_text (civil_after m))) → (n < m) ⊎ (n ≡ m) →
        Below (civil_text (civil_after n)) (civil_text (civil_after (suc m)))
    by_last more (inl less) = below_then (civil_text (civil_after n)) (civil_text (civil_after m)) (civil_text (civil_after (suc m)))
        (more less) (after_below m)
    by_last more (inr same) = subst (λ k. Below (civil_text (civil_after n)) (civil_text (civil_after (suc k)))) same (after_below n)

date_below : (d e : ℤ) → is_date d ≡ true → is_date e ≡ true → d <ℤ e → Below (date_text d) (date_text e)
date_below d e is_d is_e lt =
    let less : days_before d < days_before e = omega (arith, signed_arith, lt, (day_place_of d is_d).0, (day_place_of e is_e).0) in
    subst (λ t. Below t (date_text e)) (sym (dates_count d is_d))
    (subst (λ t. Below (civil_text (civil_after (days_before d))) t) (sym (dates_count e is_e))
    (counted_below (days_before d) (days_before e) less))

-- stamps
abbrev DayOrClock : PeriodKind → ℤ → ℤ → Type 0
DayOrClock kind a b = (day_at a <ℤ day_at b) ⊎ ((day_at a ≡ day_at b) × Below (clock_part kind (clock_at a)) (clock_part kind (clock_at b)))

stamp_below : (kind : PeriodKind) (a b : ℤ) → is_date (day_at a) ≡ true → is_date (day_at b) ≡ true → DayOrClock kind a b →
    Below (stamp kind a) (stamp kind b)
stamp_below kind a b is_a is_b (inl lt) = below_more (date_text (day_at a)) (date_text (day_at b)) (clock_part kind (clock_at a))
    (clock_part kind (clock_at b)) (date_below (day_at a) (day_at b) is_a is_b lt)
stamp_below kind a b is_a is_b (inr (e, h)) = subst (λ d. Below (stamp kind a) (date_text d ++ clock_part kind (clock_at b))) e
    (below_after (date_text (day_at a)) (clock_part kind (clock_at a)) (clock_part kind (clock_at b)) h)

days_apart : (a b : ℤ) → day_at a ≤ℤ day_at b → (day_at a <ℤ day_at b) ⊎ (day_at a ≡ day_at b)
days_apart a b le = by_case (int_le (day_at b) (day_at a)) refl
  where
    by_case : (t : Bool) → int_le (day_at b) (day_at a) ≡ t → (day_at a <ℤ day_at b) ⊎ (day_at a ≡ day_at b)
    by_case true e = inr (omega (arith, signed_arith, e, le))
    by_case false e = inl (omega (arith, signed_arith, e))

hour_below : (a b : ℕ) → a < b → Below (hour_text a) (hour_text b)
hour_below a b lt = inr (refl, two_below a b lt)

first_below : (kind : PeriodKind) (s t : ℤ) → period_of kind s <ℤ period_of kind t →
    DayOrClock kind (named_second kind s) (named_second kind t)
first_below Minute s t lt = by_day (days_apart (named_second Minute s) (named_second Minute t) (omega (arith, signed_arith, lt)))
  where
    by_day : (day_at (named_second Minute s) <ℤ day_at (named_second Minute t)) ⊎
        (day_at (named_second Minute s) ≡ day_at (named_second Minute t)) →
        DayOrClock Minute (named_second Minute s) (named_second Minute t)
    by_day (inl less) = inl less
    by_day (inr same) = inr (
      same,
      by_hour
          (apart_or_same (clock_at (named_second Minute s) / 3600) (clock_at (named_second Minute t) / 3600)
          (omega (arith, signed_arith, lt, same))),
    )
      where
        by_hour : ((clock_at (named_second Minute s) / 3600) < (clock_at (named_second Minute t) / 3600)) ⊎
            ((clock_at (named_second Minute s) / 3600) ≡ (clock_at (named_second Minute t) / 3600)) →
            Below (clock_part Minute (clock_at (named_second Minute s))) (clock_part Minute (clock_at (named_second Minute t)))
        by_hour (inl less) = below_more (hour_text (clock_at (named_second Minute s) / 3600))
            (hour_text (clock_at (named_second Minute t) / 3600)) (hour_text (clock_at (named_second Minute s) % 3600 / 60))
            (hour_text (clock_at (named_second Minute t) % 3600 / 60))
            (hour_below (clock_at (named_second Minute s) / 3600) (clock_at (named_second Minute t) / 3600) less)
        by_hour (inr hour) =
            subst (λ h. Below (clock_part Minute (clock_at (named_second Minute s)))
            (hour_text h ++ hour_text (clock_at (named_second Minute t) % 3600 / 60))) hour
            (below_after (hour_text (clock_at (named_second Minute s) / 3600)) (hour_text (clock_at (named_second Minute s) % 3600 / 60))
            (hour_text (clock_at (named_second Minute t) % 3600 / 60))
            (hour_below (clock_at (named_second Minute s) % 3600 / 60) (clock_at (named_second Minute t) % 3600 / 60)
            (omega (arith, signed_arith, lt, same, hour))))
first_below Hour s t lt = by_day (days_apart (named_second Hour s) (named_second Hour t) (omega (arith, signed_arith, lt)))
  where
    by_day : (day_at (named_second Hour s) <ℤ day_at (named_second Hour t)) ⊎
        (day_at (named_second Hour s) ≡ day_at (named_second Hour t)) → DayOrClock Hour (named_second Hour s) (named_second Hour t)
    by_day (inl less) = inl less
    by_day (inr same) = inr (
      same,
      hour_below (clock_at (named_second Hour s) / 3600) (clock_at (named_second Hour t) / 3600)
          (omega (arith, signed_arith, lt, same)),
    )
first_below Day s t lt = inl (omega (arith, signed_arith, lt))
first_below Week s t lt = inl (omega (arith, signed_arith, lt))
first_below Whole s t lt = absurd (omega (arith, signed_arith, lt))

pub below_less : (xs ys : List ℕ) → Below xs ys → slice_cmp nat_cmp xs ys ≡ Less
below_less [] ys h = absurd h
below_less (x ∷ xs) [] h = absurd h
below_less (x ∷ xs) (y ∷ ys) (inl lt) = ap (λ o. ordering_then o (slice_cmp nat_cmp xs ys)) (sym (nat_cmp_is x y Less lt))
below_less (x ∷ xs) (y ∷ ys) (inr (e, h)) = ap (λ o. ordering_then o (slice_cmp nat_cmp xs ys)) (sym (nat_cmp_is x y Equal e)) ∙
    below_less xs ys h

around_below : (kind : PeriodKind) (prefix suffix : Option (List ℕ)) (s t : ℤ) → is_second s ≡ true → is_second t ≡ true →
    period_of kind s <ℤ period_of kind t → Below (around prefix (stamp kind (named_second kind s)) suffix)
    (around prefix (stamp kind (named_second kind t)) suffix)
around_below kind prefix suffix s t is_s is_t lt =
    let a = stamp kind (named_second kind s) in
    let b = stamp kind (named_second kind t) in
    let below = stamp_below kind (named_second kind s) (named_second kind t) (named_date kind s is_s) (named_date kind t is_t)
    (first_below kind s t lt) in
    subst (λ x. Below x (around prefix b suffix)) (sym (around_is prefix suffix a))
    (subst (λ y. Below (before_date prefix ++ (a ++ after_date suffix)) y) (sym (around_is prefix suffix b))
    (below_after (before_date prefix) (a ++ after_date suffix) (b ++ after_date suffix)
    (below_more a b (after_date suffix) (after_date suffix) below)))

pub rise : NamesRise
rise Minute prefix suffix s t is_s is_t lt = below_less (name_at Minute prefix suffix s) (name_at Minute prefix suffix t)
    (around_below Minute prefix suffix s t is_s is_t lt)
rise Hour prefix suffix s t is_s is_t lt = below_less (name_at Hour prefix suffix s) (name_at Hour prefix suffix t)
    (around_below Hour prefix suffix s t is_s is_t lt)
rise Day prefix suffix s t is_s is_t lt = below_less (name_at Day prefix suffix s) (name_at Day prefix suffix t)
    (around_below Day prefix suffix s t is_s is_t lt)
rise Week prefix suffix s t is_s is_t lt = below_less (name_at Week prefix suffix s) (name_at Week prefix suffix t)
    (around_below Week prefix suffix s t is_s is_t lt)
rise Whole prefix suffix s t is_s is_t lt = absurd (omega (arith, signed_arith, lt))
