-- Periods, their ends and names, and the later of two moments.
use Rattle.std.proofs.Common.{◌≡◌, ◌≢◌, Bool, true, false, refl, ap, arith, cond, ◌&&◌, ℕ, ℤ, List, ◌≤ℤ◌, ◌<ℤ◌, Option}
use Rattle.std.specs.Prelude.{int_le, nat_lt}
use Rattle.std.proofs.lemmas.Bool.{false_from_ne_true, true_from_ne_false}
use Rattle.std.proofs.Common.{w64, to_z, of_z}
use Rattle.std.proofs.lemmas.Int.{to_z-of_z}
use Rattle.jiff_core.proofs.SignedLemmas.{signed_arith, fits_between}
use Rattle.tracing_core_moments.proofs.Range.{second_range}
use Rattle.tracing_core_moments.specs.declared.period.PeriodKind.{PeriodKind}
use Rattle.tracing_core_moments.specs.declared.period.PeriodKind.TheVariants.{Minute, Hour, Day, Week, Whole}
use Rattle.tracing_core_moments.specs.Days.{is_second}
use Rattle.tracing_core_moments.specs.Periods.{period_of, first_second}
use Rattle.tracing_core_moments.specs.Stamps.{stamp, or_itself}
use Rattle.tracing_core_moments.specs.Names as dated
use Rattle.tracing_core_moments.specs.declared.moment.Moment.{Moment}
use Rattle.tracing_core_moments.specs.Moments.{period_at, end_of, is_due, is_earlier, latest_of, is_moment}
use Rattle.tracing_appender_rolling.specs.Names.{FileNames, joined, file_name}
use Rattle.tracing_appender_rolling.specs.Looks.{LaterPeriodsAreDue}

first_holds : (p q : Bool) → (p && q) ≡ true → p ≡ true
first_holds true q h = refl
first_holds false q h = h

pub moment_second : (m : Moment) → is_moment m ≡ true → is_second m.seconds ≡ true
moment_second m is = first_holds (is_second m.seconds) (nat_lt m.nanoseconds 1000000000) is

-- an earlier moment has no later second
pub earlier_seconds : (a b : Moment) → is_earlier a b ≡ true → a.seconds ≤ℤ b.seconds
earlier_seconds a b e = by_case (int_le b.seconds a.seconds) refl e
  where
    by_case : (t : Bool) → int_le b.seconds a.seconds ≡ t → cond t (int_le a.seconds b.seconds && nat_lt a.nanoseconds b.nanoseconds)
        true ≡ true → a.seconds ≤ℤ b.seconds
    by_case true h f = omega (arith, signed_arith, first_holds (int_le a.seconds b.seconds) (nat_lt a.nanoseconds b.nanoseconds) f)
    by_case false h f = omega (arith, signed_arith, h)

-- a second from another on and before the end of its period lies in its period
within : (kind : PeriodKind) (r s : ℤ) → r ≤ℤ s → is_due (end_of kind (period_of kind r)) s ≡ false → period_of kind s ≡ period_of kind r
within Minute r s le e = omega (arith, signed_arith, le, e)
within Hour r s le e = omega (arith, signed_arith, le, e)
within Day r s le e = omega (arith, signed_arith, le, e)
within Week r s le e = omega (arith, signed_arith, le, e)
within Whole r s le e = refl

-- a second from the end of another's period on is later
beyond : (kind : PeriodKind) (r s : ℤ) → is_due (end_of kind (period_of kind r)) s ≡ true → r <ℤ s
beyond Minute r s e = omega (arith, signed_arith, e)
beyond Hour r s e = omega (arith, signed_arith, e)
beyond Day r s e = omega (arith, signed_arith, e)
beyond Week r s e = omega (arith, signed_arith, e)
beyond Whole r s e = cc

-- and its period is a later one; a second of a later period lies there
past : (kind : PeriodKind) (r s : ℤ) → is_due (end_of kind (period_of kind r)) s ≡ true → period_of kind r <ℤ period_of kind s
past Minute r s e = omega (arith, signed_arith, e)
past Hour r s e = omega (arith, signed_arith, e)
past Day r s e = omega (arith, signed_arith, e)
past Week r s e = omega (arith, signed_arith, e)
past Whole r s e = cc

not_past : (kind : PeriodKind) (r s : ℤ) → period_of kind r <ℤ period_of kind s → is_due (end_of kind (period_of kind r)) s ≢ false
not_past Minute r s lt e = omega (arith, signed_arith, lt, e)
not_past Hour r s lt e = omega (arith, signed_arith, lt, e)
not_past Day r s lt e = omega (arith, signed_arith, lt, e)
not_past Week r s lt e = omega (arith, signed_arith, lt, e)
not_past Whole r s lt e = omega (arith, signed_arith, lt)

pub later_due : LaterPeriodsAreDue
later_due kind r s = (past kind r s, λ lt. true_from_ne_false (is_due (end_of kind (period_of kind r)) s) (not_past kind r s lt))

-- a moment lies before the end of the period of the later of it and another
latest_seconds : (r m : Moment) → m.seconds ≤ℤ (latest_of r m).seconds
latest_seconds r m = by_case (is_earlier r m) refl
  where
    not_earlier : (t : Bool) → int_le m.seconds r.seconds ≡ t → cond t (int_le r.seconds m.seconds && nat_lt r.nanoseconds m.nanoseconds)
        true ≡ false → m.seconds ≤ℤ r.seconds
    not_earlier true h f = omega (arith, signed_arith, h)
    not_earlier false h f = cc

    by_case : (b : Bool) → is_earlier r m ≡ b → m.seconds ≤ℤ (cond b m r).seconds
    by_case true e = omega (arith, signed_arith)
    by_case false e = not_earlier (int_le m.seconds r.seconds) refl e

pub latest_not_due : (kind : PeriodKind) (r m : Moment) → is_due (end_of kind (period_at kind (latest_of r m))) m.seconds ≡ false
latest_not_due kind r m =
    let le = latest_seconds r m in
    false_from_ne_true (is_due (end_of kind (period_at kind (latest_of r m))) m.seconds)
    (λ e. let more = beyond kind (latest_of r m).seconds m.seconds e in omega (arith, signed_arith, le, more))

pub own_not_due : (kind : PeriodKind) (m : Moment) → is_due (end_of kind (period_at kind m)) m.seconds ≡ false
own_not_due kind m =
    false_from_ne_true (is_due (end_of kind (period_at kind m)) m.seconds) (λ e. let more = beyond kind m.seconds m.seconds e in
    omega (arith, signed_arith, more))

-- a moment before the end of the greatest one's period leaves that period
pub same_period : (kind : PeriodKind) (r m : Moment) → is_due (end_of kind (period_at kind r)) m.seconds ≡ false →
    period_at kind (latest_of r m) ≡ period_at kind r
same_period kind r m e = by_case (is_earlier r m) refl
  where
    by_case : (b : Bool) → is_earlier r m ≡ b → period_at kind (cond b m r) ≡ period_at kind r
    by_case true h = within kind r.seconds m.seconds (earlier_seconds r m h) e
    by_case false h = refl

-- a moment from that end on is the greatest
pub later_period : (kind : PeriodKind) (r m : Moment) → is_due (end_of kind (period_at kind r)) m.seconds ≡ true → latest_of r m ≡ m
later_period kind r m e =
    let more = beyond kind r.seconds m.seconds e in
    let after = false_from_ne_true (int_le m.seconds r.seconds) (λ h. omega (arith, signed_arith, h, more)) in
    ap (λ t. cond (cond t (int_le r.seconds m.seconds && nat_lt r.nanoseconds m.nanoseconds) true) m r) after

name_by_kind : (kind : PeriodKind) (prefix suffix : Option (List ℕ)) (s : ℤ) →
    dated.name_at kind prefix suffix s ≡ joined kind prefix (stamp kind (or_itself (first_second kind (period_of kind s)) s)) suffix
name_by_kind Minute prefix suffix s = refl
name_by_kind Hour prefix suffix s = refl
name_by_kind Day prefix suffix s = refl
name_by_kind Week prefix suffix s = refl
name_by_kind Whole prefix suffix s = refl

pub name_is : (names : FileNames) (s : ℤ) → dated.name_at names.kind names.prefix names.suffix s ≡ file_name names s
    (period_of names.kind s)
unfolding file_name
name_is names s = name_by_kind names.kind names.prefix names.suffix s

-- the opening has no part in the name where there is more than one period
free_by_kind : (kind : PeriodKind) (prefix suffix : Option (List ℕ)) (a b p q s : ℤ) → is_due (end_of kind q) s ≡ true →
    joined kind prefix (stamp kind (or_itself (first_second kind p) a)) suffix ≡ joined kind prefix
    (stamp kind (or_itself (first_second kind p) b)) suffix
free_by_kind Minute prefix suffix a b p q s e = refl
free_by_kind Hour prefix suffix a b p q s e = refl
free_by_kind Day prefix suffix a b p q s e = refl
free_by_kind Week prefix suffix a b p q s e = refl
free_by_kind Whole prefix suffix a b p q s e = cc

pub opening_free : (names : FileNames) (a b p q s : ℤ) → is_due (end_of names.kind q) s ≡ true → file_name names a p ≡ file_name names b p
unfolding file_name
opening_free names a b p q s e = free_by_kind names.kind names.prefix names.suffix a b p q s e

-- a moment's second as a function takes it
pub taken_second : (m : Moment) → is_moment m ≡ true → to_z w64 (of_z w64 m.seconds) ≡ m.seconds
taken_second m is = let r = second_range m.seconds (moment_second m is) in
    to_z-of_z w64 m.seconds (fits_between w64 m.seconds (omega (arith, signed_arith, r.0, r.1)))
