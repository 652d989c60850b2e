-- Names, and that those of different periods differ.
use Rattle.std.proofs.Common.{arith, ◌≡◌, ◌≢◌, ◌∙◌, sym, ap, subst, refl, true, pos, negsuc, ◌+ℤ◌, ◌-ℤ◌, ◌*ℤ◌, ◌≤ℤ◌, ◌<◌, ◌*◌, ◌/◌, ℕ, ℤ}
use Rattle.std.proofs.Common.{List, [], ◌∷◌, ◌++◌, Option, Some, None, append_assoc}
use Rattle.std.proofs.lemmas.List.{append-nil, append_cancel_left, append_cancel_right}
use Rattle.jiff_core.proofs.SignedLemmas.{signed_arith}
use Rattle.tracing_core_moments.specs.declared.period.PeriodKind.{PeriodKind}
use Rattle.tracing_core_moments.specs.declared.period.PeriodKind.TheVariants.{Minute, Hour, Day, Week, Whole}
use Rattle.tracing_core_moments.specs.Days.{is_date, is_second, day_at}
use Rattle.tracing_core_moments.specs.Periods.{period_of, first_second}
use Rattle.tracing_core_moments.specs.Stamps.{clock_at, told_part, stamp, stamped, named_second}
use Rattle.tracing_core_moments.specs.Names.{around, before_date, after_date, PeriodsDiffer}
use Rattle.tracing_core_moments.proofs.Range.{second_range, is_date_from}
use Rattle.tracing_core_moments.proofs.Stamps.{on_day, stamps_apart}

-- a name's parts
pub around_is : (prefix suffix : Option (List ℕ)) (date : List ℕ) → around prefix date suffix ≡ before_date prefix ++
    (date ++ after_date suffix)
around_is (Some prefix) (Some suffix) date = sym (append_assoc prefix (46 ∷ []) (date ++ 46 ∷ suffix))
around_is (Some prefix) None date = ap (λ (t : List ℕ). prefix ++ 46 ∷ t) (sym (append-nil date)) ∙
    sym (append_assoc prefix (46 ∷ []) (date ++ []))
around_is None (Some suffix) date = refl
around_is None None date = sym (append-nil date)

pub around_same : (prefix suffix : Option (List ℕ)) (a b : List ℕ) → around prefix a suffix ≡ around prefix b suffix → a ≡ b
around_same prefix suffix a b e =
    append_cancel_right a b (after_date suffix)
    (append_cancel_left (before_date prefix) (a ++ after_date suffix) (b ++ after_date suffix) (sym (around_is prefix suffix a) ∙ e ∙
    around_is prefix suffix b))

-- the day and the clock of a period's first second, which its stamp tells
record Starts (kind : PeriodKind) (first : ℤ) : Type 0 where
  pub day : ℤ
  pub clock : ℕ
  pub small : clock < 86400
  pub sum : first ≡ (day *ℤ pos 86400) +ℤ pos clock
  pub told : told_part kind clock ≡ clock
  pub low : negsuc 719527 ≤ℤ day
  pub high : day ≤ℤ pos 2932896

told_first : (kind : PeriodKind) (first : ℤ) → Starts kind first → (is_date (day_at first) ≡ true) × (stamped kind first ≡ first)
told_first kind first st =
    let o = on_day st.day st.clock st.small in
    let here : day_at first ≡ st.day = ap day_at st.sum ∙ o.0 in
    let at : clock_at first ≡ st.clock = ap clock_at st.sum ∙ o.1 in (
      ap is_date here ∙ is_date_from st.day st.low st.high,
      ap (λ d. (d *ℤ pos 86400) +ℤ pos (told_part kind (clock_at first))) here ∙ ap (λ n. (st.day *ℤ pos 86400) +ℤ pos (told_part kind n))
          at ∙ ap (λ n. (st.day *ℤ pos 86400) +ℤ pos n) st.told ∙ sym st.sum,
    )

starts_at : (kind : PeriodKind) (s day : ℤ) (clock : ℕ) → is_second s ≡ true → clock < 86400 →
    named_second kind s ≡ (day *ℤ pos 86400) +ℤ pos clock → told_part kind clock ≡ clock → day ≤ℤ day_at s → day_at s ≤ℤ (day +ℤ pos 6) →
    Starts kind (named_second kind s)
starts_at kind s day clock is small sum told before after =
    let r = second_range s is in
    record {
      day = day;
      clock = clock;
      small = small;
      sum = sum;
      told = told;
      low = omega (arith, signed_arith, r.0);
      high =
          omega (arith, signed_arith, r.1);
    }

-- the first second of a second's period, and for all of time the second itself
starts : (kind : PeriodKind) (s : ℤ) → is_second s ≡ true → kind ≢ Whole → Starts kind (named_second kind s)
starts Minute s is timed = starts_at Minute s (day_at s) (clock_at s / 60 * 60) is (omega (arith, signed_arith))
    (omega (arith, signed_arith)) (omega arith) (omega (arith, signed_arith)) (omega (arith, signed_arith))
starts Hour s is timed = starts_at Hour s (day_at s) (clock_at s / 3600 * 3600) is (omega (arith, signed_arith))
    (omega (arith, signed_arith)) (omega arith) (omega (arith, signed_arith)) (omega (arith, signed_arith))
starts Day s is timed = starts_at Day s (day_at s) 0 is (omega arith) (omega (arith, signed_arith)) refl (omega (arith, signed_arith))
    (omega (arith, signed_arith))
starts Week s is timed = starts_at Week s ((period_of Week s *ℤ pos 7) -ℤ pos 4) 0 is (omega arith) (omega (arith, signed_arith)) refl
    (omega (arith, signed_arith)) (omega (arith, signed_arith))
starts Whole s is timed = absurd (timed refl)

timed_first : (kind : PeriodKind) (s first : ℤ) → first_second kind (period_of kind s) ≡ Some first → (kind ≢ Whole) ×
    (named_second kind s ≡ first)
timed_first Minute s first e = (λ w. cc, cc)
timed_first Hour s first e = (λ w. cc, cc)
timed_first Day s first e = (λ w. cc, cc)
timed_first Week s first e = (λ w. cc, cc)
timed_first Whole s first e = cc

-- the first second of a period is what its stamp tells
pub first_told : (kind : PeriodKind) (s first : ℤ) → is_second s ≡ true → first_second kind (period_of kind s) ≡ Some first →
    (is_date (day_at first) ≡ true) × (stamped kind first ≡ first)
first_told kind s first is e =
    let timed = timed_first kind s first e in
    subst (λ f. (is_date (day_at f) ≡ true) × (stamped kind f ≡ f)) timed.1
    (told_first kind (named_second kind s) (starts kind s is timed.0))

apart : (kind : PeriodKind) (prefix suffix : Option (List ℕ)) (s t : ℤ) → is_second s ≡ true → is_second t ≡ true → kind ≢ Whole →
    around prefix (stamp kind (named_second kind s)) suffix ≡ around prefix (stamp kind (named_second kind t)) suffix →
    named_second kind s ≡ named_second kind t
apart kind prefix suffix s t is_s is_t timed e =
    let x = told_first kind (named_second kind s) (starts kind s is_s timed) in
    let y = told_first kind (named_second kind t) (starts kind t is_t timed) in
    sym x.1 ∙ stamps_apart kind (named_second kind s) (named_second kind t) x.0 y.0 (around_same prefix suffix _ _ e) ∙ y.1

-- the first second's day is in the calendar
pub named_date : (kind : PeriodKind) (s : ℤ) → is_second s ≡ true → is_date (day_at (named_second kind s)) ≡ true
named_date Minute s is = (told_first Minute (named_second Minute s) (starts Minute s is (λ w. cc))).0
named_date Hour s is = (told_first Hour (named_second Hour s) (starts Hour s is (λ w. cc))).0
named_date Day s is = (told_first Day (named_second Day s) (starts Day s is (λ w. cc))).0
named_date Week s is = (told_first Week (named_second Week s) (starts Week s is (λ w. cc))).0
named_date Whole s is = let r = second_range s is in
    is_date_from (day_at s) (omega (arith, signed_arith, r.0)) (omega (arith, signed_arith, r.1))

pub differ : PeriodsDiffer
differ Minute prefix suffix s t is_s is_t e = omega (arith, signed_arith, apart Minute prefix suffix s t is_s is_t (λ w. cc) e)
differ Hour prefix suffix s t is_s is_t e = omega (arith, signed_arith, apart Hour prefix suffix s t is_s is_t (λ w. cc) e)
differ Day prefix suffix s t is_s is_t e = omega (arith, signed_arith, apart Day prefix suffix s t is_s is_t (λ w. cc) e)
differ Week prefix suffix s t is_s is_t e = omega (arith, signed_arith, apart Week prefix suffix s t is_s is_t (λ w. cc) e)
differ Whole prefix suffix s t is_s is_t e = refl

-- names that tell no date
pub unread_front : (kind : PeriodKind) (prefix suffix : Option (List ℕ)) (name : List ℕ) →
    ((rest : List ℕ) → name ≢ before_date prefix ++ rest) → (s : ℤ) → is_date (day_at s) ≡ true → name ≢ around prefix (stamp kind s) suffix
unread_front kind prefix suffix name none s is e = none (stamp kind s ++ after_date suffix) (e ∙ around_is prefix suffix (stamp kind s))

pub unread_back : (kind : PeriodKind) (prefix suffix : Option (List ℕ)) (name rest : List ℕ) → name ≡ before_date prefix ++ rest →
    ((date : List ℕ) → rest ≢ date ++ after_date suffix) → (s : ℤ) → is_date (day_at s) ≡ true → name ≢ around prefix (stamp kind s) suffix
unread_back kind prefix suffix name rest is_name none s is e =
    none (stamp kind s) (append_cancel_left (before_date prefix) rest (stamp kind s ++ after_date suffix)
    (sym is_name ∙ e ∙ around_is prefix suffix (stamp kind s)))

pub unread_date : (kind : PeriodKind) (prefix suffix : Option (List ℕ)) (name rest date : List ℕ) → name ≡ before_date prefix ++ rest →
    rest ≡ date ++ after_date suffix → ((s : ℤ) → is_date (day_at s) ≡ true → date ≢ stamp kind s) → (s : ℤ) → is_date (day_at s) ≡ true →
    name ≢ around prefix (stamp kind s) suffix
unread_date kind prefix suffix name rest date is_name is_rest none s is e =
    none s is (append_cancel_right date (stamp kind s) (after_date suffix)
    (sym is_rest ∙ append_cancel_left (before_date prefix) rest (stamp kind s ++ after_date suffix)
    (sym is_name ∙ e ∙ around_is prefix suffix (stamp kind s))))
