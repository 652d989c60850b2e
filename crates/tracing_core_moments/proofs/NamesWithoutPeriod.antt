-- Names that are told and names that no period has.
use Rattle.std.proofs.Common.{arith, ◌≡◌, ◌≢◌, ◌∙◌, sym, ap, true, false, w64, to_z, of_z, pos, negsuc, ◌≤ℤ◌, ℕ, ℤ, List, [], ◌∷◌, ◌++◌}
use Rattle.std.proofs.Common.{Option, Some, None, IfSome, append_assoc}
use Rattle.std.specs.Prelude.{IfNone}
use Rattle.std.specs.Str.{bytes_eq}
use Rattle.std.proofs.lemmas.Bool.{false≢true}
use Rattle.std.proofs.lemmas.List.{append_cancel_left}
use Rattle.std.proofs.lemmas.Slice.Eq.{bytes_eq-Decides}
use Rattle.std.proofs.lemmas.Int.{to_z-of_z}
use Rattle.jiff_core.proofs.SignedLemmas.{signed_arith, fits_between}
use Rattle.tracing_core_moments.specs.declared.period.PeriodKind.{PeriodKind}
use Rattle.tracing_core_moments.specs.declared.period.PeriodKind.TheVariants.{Whole}
use Rattle.tracing_core_moments.specs.Days.{is_date, is_second, day_at}
use Rattle.tracing_core_moments.specs.Periods.{period_of, first_second}
use Rattle.tracing_core_moments.specs.Stamps.{stamp, stamped}
use Rattle.tracing_core_moments.specs.Names.{around, before_date, lasting_name}
use Rattle.tracing_core_moments.proofs.Range.{date_range, second_range}
use Rattle.tracing_core_moments.proofs.Stamps.{stamps_apart}
use Rattle.tracing_core_moments.proofs.Names.{around_same, named_date, first_told}

-- a date of a day outside of moments
pub day_unnamed : (s : ℤ) (name : List ℕ) → is_date (day_at s) ≡ true → stamped Whole s ≡ s → name ≡ stamp Whole s →
    (negsuc 62135596799 ≤ℤ s → s ≤ℤ pos 253370764799 → ⊥) → (t : ℤ) → is_second t ≡ true → name ≢ stamp Whole t
day_unnamed s name is_s told is out t is_t e =
    let same = stamps_apart Whole s t is_s (named_date Whole t is_t) (sym is ∙ e) in
    let r = second_range t is_t in
    out (omega (arith, signed_arith, same, told, r.0, r.1)) (omega (arith, signed_arith, same, told, r.0, r.1))

-- a second of a dated day as a function takes it
pub taken_dated : (f : ℤ) → is_date (day_at f) ≡ true → to_z w64 (of_z w64 f) ≡ f
taken_dated f is = let r = date_range (day_at f) is in to_z-of_z w64 f (fits_between w64 f (omega (arith, signed_arith, r.0, r.1)))

-- a date that begins no period of moments
pub unbegun : (kind : PeriodKind) (prefix suffix : Option (List ℕ)) (name : List ℕ) (f : ℤ) → is_date (day_at f) ≡ true →
    stamped kind f ≡ f → name ≡ around prefix (stamp kind f) suffix →
    ((s : ℤ) → is_second s ≡ true → first_second kind (period_of kind s) ≢ Some f) → (s first : ℤ) → is_second s ≡ true →
    first_second kind (period_of kind s) ≡ Some first → name ≢ around prefix (stamp kind first) suffix
unbegun kind prefix suffix name f is_f told is none s first is_s begins e =
    let at = first_told kind s first is_s begins in
    let same = stamps_apart kind f first is_f at.0 (around_same prefix suffix (stamp kind f) (stamp kind first) (sym is ∙ e)) in
    none s is_s (begins ∙ ap Some (sym at.1 ∙ sym same ∙ told))

parted : (prefix last : List ℕ) → before_date (Some prefix) ++ last ≡ prefix ++ (46 ∷ last)
parted prefix last = append_assoc prefix (46 ∷ []) last

-- the name of the one file where there are both parts
pub lasting_is : (prefix suffix : Option (List ℕ)) (p last date : List ℕ) → prefix ≡ Some p → suffix ≡ Some last →
    lasting_name prefix date suffix ≡ before_date prefix ++ last
lasting_is None suffix p last date e f = cc
lasting_is (Some q) None p last date e f = cc
lasting_is (Some q) (Some r) p last date e f = let same : r ≡ last = cc in
    sym (parted q r) ∙ ap (λ (t : List ℕ). before_date (Some q) ++ t) same

module _ (prefix suffix : Option (List ℕ)) (p last rest name : List ℕ) (e : prefix ≡ Some p) (f : suffix ≡ Some last)
    (is : name ≡ before_date prefix ++ rest) where
  pub both_some : (r : Option ℤ) → IfSome r (λ s. (bytes_eq rest last ≡ true) × (is_second s ≡ true)) →
      IfSome r (λ s. (is_second s ≡ true) × (name ≡ lasting_name prefix (stamp Whole s) suffix))
  both_some None h = tt
  both_some (Some s) h = (
    h.1,
    is ∙ ap (λ (t : List ℕ). before_date prefix ++ t) ((bytes_eq-Decides rest last).0 h.0) ∙
        sym (lasting_is prefix suffix p last (stamp Whole s) e f),
  )

  pub both_none : (r : Option ℤ) → IfNone r (bytes_eq rest last ≡ false) →
      IfNone r ((s : ℤ) → is_second s ≡ true → name ≢ lasting_name prefix (stamp Whole s) suffix)
  both_none (Some s) h = tt
  both_none None h = λ s is_s same. false≢true
      (sym h ∙ (bytes_eq-Decides rest last).1
      (append_cancel_left (before_date prefix) rest last (sym is ∙ same ∙ lasting_is prefix suffix p last (stamp Whole s) e f)))
