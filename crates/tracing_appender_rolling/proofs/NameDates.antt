-- The date in a name is the one that is read.
use Rattle.std.proofs.Common.{◌≡◌, ◌≢◌, ℕ, zero, suc, ℤ, pos, negsuc, ◌+ℤ◌, ◌≤ℤ◌, ◌<ℤ◌, Bool, true, false, cond, List, refl, ap, sym, ◌∙◌}
use Rattle.std.proofs.Common.{arith, Option, Some, None, IfSome}
use Rattle.std.specs.Prelude.{IfNone, int_le}
use Rattle.std.specs.Str.{bytes_eq}
use Rattle.std.proofs.lemmas.Bool.{false≢true, false_from_ne_true}
use Rattle.std.proofs.lemmas.Slice.Eq.{bytes_eq-Decides}
use Rattle.jiff_core.proofs.SignedLemmas.{signed_arith}
use Rattle.tracing_core_moments.specs.declared.period.PeriodKind.{PeriodKind}
use Rattle.tracing_core_moments.specs.declared.period.PeriodKind.TheVariants.{Minute, Hour, Day, Week, Whole}
use Rattle.tracing_core_moments.specs.Days.{is_date, day_at}
use Rattle.tracing_core_moments.specs.Stamps.{stamp, stamped}
use Rattle.tracing_core_moments.specs.Names.{around}
use Rattle.tracing_core_moments.proofs.Range.{date_range, is_date_from}
use Rattle.tracing_core_moments.proofs.Stamps.{clock_is, stamps_apart}
use Rattle.tracing_core_moments.proofs.Names.{around_same}
use Rattle.tracing_appender_rolling.specs.Names.{FileNames}
use Rattle.tracing_appender_rolling.specs.Retention.{dated_from, date_in}

-- a stamp tells no later second than its own
told_below : (kind : PeriodKind) (s : ℤ) → stamped kind s ≤ℤ s
told_below Minute s = omega (arith, signed_arith, clock_is s)
told_below Hour s = omega (arith, signed_arith, clock_is s)
told_below Day s = omega (arith, signed_arith, clock_is s)
told_below Week s = omega (arith, signed_arith, clock_is s)
told_below Whole s = omega (arith, signed_arith, clock_is s)

less_by : (s t : ℤ) → s ≤ℤ t → (s ≡ t → ⊥) → s <ℤ t
less_by s t le apart = by_case (int_le t s) refl
  where
    by_case : (b : Bool) → int_le t s ≡ b → s <ℤ t
    by_case true is = absurd (apart (omega (arith, signed_arith, le, is)))
    by_case false is = omega (arith, signed_arith, is)

first_is : (b : Bool) (s t : ℤ) (rest : Option ℤ) → (b ≡ true → s ≡ t) → (b ≡ false → rest ≡ Some t) → cond b (Some s) rest ≡ Some t
first_is true s t rest here later = ap (λ (x : ℤ). Some x) (here refl)
first_is false s t rest here later = later refl

module _ (names : FileNames) (name : List ℕ) where
  abbrev name_of : ℤ → List ℕ
  name_of s = around names.prefix (stamp names.kind s) names.suffix

  none_from : ((s : ℤ) → is_date (day_at s) ≡ true → name ≢ name_of s) → (n : ℕ) (s : ℤ) → negsuc 62167219199 ≤ℤ s →
      (s +ℤ pos n) ≤ℤ pos 253402300800 → dated_from names name n s ≡ None
  none_from none zero s low high = refl
  none_from none (suc n) s low high =
      let is : is_date (day_at s) ≡ true = is_date_from (day_at s) (omega (arith, signed_arith, low)) (omega (arith, signed_arith, high)) in
      ap (λ b. cond b (Some s) (dated_from names name n (s +ℤ pos 1)))
      (false_from_ne_true (bytes_eq name (name_of s)) (λ same. none s is ((bytes_eq-Decides name (name_of s)).0 same)))
      ∙ none_from none n (s +ℤ pos 1) (omega (arith, signed_arith, low)) (omega (arith, signed_arith, high))

  module _ (t : ℤ) (is : is_date (day_at t) ≡ true) (told : stamped names.kind t ≡ t) (has : name ≡ name_of t) where
    date_before : (s : ℤ) → negsuc 62167219199 ≤ℤ s → s ≤ℤ t → is_date (day_at s) ≡ true
    date_before s low le = let range = date_range (day_at t) is in
        is_date_from (day_at s) (omega (arith, signed_arith, low)) (omega (arith, signed_arith, range.1, le))

    same_second : (s : ℤ) → negsuc 62167219199 ≤ℤ s → s ≤ℤ t → name ≡ name_of s → s ≡ t
    same_second s low le here =
        let below = told_below names.kind s in
        let tells = stamps_apart names.kind s t (date_before s low le) is
        (around_same names.prefix names.suffix (stamp names.kind s) (stamp names.kind t) (sym here ∙ has)) ∙ told in
        omega (arith, signed_arith, below, tells, le)

    found_from : (n : ℕ) (s : ℤ) → negsuc 62167219199 ≤ℤ s → s ≤ℤ t → t <ℤ (s +ℤ pos n) → dated_from names name n s ≡ Some t
    found_from zero s low le lt = absurd (omega (arith, signed_arith, le, lt))
    found_from (suc n) s low le lt =
        first_is (bytes_eq name (name_of s)) s t (dated_from names name n (s +ℤ pos 1))
        (λ same. same_second s low le ((bytes_eq-Decides name (name_of s)).0 same))
        (λ miss.
        let less = less_by s t le (λ same. false≢true (sym miss ∙ (bytes_eq-Decides name (name_of s)).1 (has ∙ ap name_of (sym same)))) in
        found_from n (s +ℤ pos 1) (omega (arith, signed_arith, low)) (omega (arith, signed_arith, less)) (omega (arith, signed_arith, lt)))

    found_first : (negsuc 62167219199 ≤ℤ t) × (t <ℤ (negsuc 62167219199 +ℤ pos 315569520000))
    found_first = let range = date_range (day_at t) is in (omega (arith, signed_arith, range.0), omega (arith, signed_arith, range.1))

pub date_read : (names : FileNames) (name : List ℕ) (date : Option ℤ) →
    IfSome date (λ s. (is_date (day_at s) ≡ true) × (stamped names.kind s ≡ s) ×
    (name ≡ around names.prefix (stamp names.kind s) names.suffix)) →
    IfNone date ((s : ℤ) → is_date (day_at s) ≡ true → name ≢ around names.prefix (stamp names.kind s) names.suffix) →
    date ≡ date_in names name
unfolding date_in
date_read names name (Some t) (is, told, has) none =
    let range = found_first names name t is told has in
    sym (found_from names name t is told has 315569520000 (negsuc 62167219199) (omega (arith, signed_arith)) range.0 range.1)
date_read names name None some none =
    sym (none_from names name none 315569520000 (negsuc 62167219199) (omega (arith, signed_arith)) (omega (arith, signed_arith)))
