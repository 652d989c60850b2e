-- A later period's file was not opened before, and no link has its name.
use Rattle.std.proofs.Common.{◌≡◌, ◌≢◌, ℕ, ℤ, ◌≤ℤ◌, List, [], ◌∷◌, true, false, ◌||◌, refl, ap, ◌∙◌, arith, Option, Some}
use Rattle.std.specs.List.{list_any, AllByRecursion}
use Rattle.std.specs.Str.{bytes_eq}
use Rattle.std.proofs.lemmas.Bool.{false_from_ne_true}
use Rattle.std.proofs.lemmas.Slice.Eq.{bytes_eq-Decides}
use Rattle.jiff_core.proofs.SignedLemmas.{signed_arith}
use Rattle.tracing_core_moments.specs.declared.period.PeriodKind.{PeriodKind}
use Rattle.tracing_core_moments.specs.declared.period.PeriodKind.TheVariants.{Minute, Hour, Day, Week, Whole}
use Rattle.tracing_core_moments.specs.Periods.{first_second}
use Rattle.tracing_core_moments.specs.Stamps.{stamp, or_itself}
use Rattle.tracing_core_moments.specs.declared.moment.Moment.{Moment}
use Rattle.tracing_core_moments.specs.Moments.{is_moment, is_earlier, latest_of, period_at, end_of, is_due}
use Rattle.tracing_appender_rolling.specs.Names.{FileNames, joined, file_name, HasGoodLink}
use Rattle.tracing_appender_rolling.specs.Sinks.{Handed, Placed, PlainSink, placed, placed_lines, running_moment, running_period, period_in}
use Rattle.tracing_appender_rolling.specs.Sinks.{period_name, lies_in, was_opened}
use Rattle.tracing_appender_rolling.proofs.PeriodFacts.{later_due}
use Rattle.tracing_appender_rolling.proofs.DistinctNames.{names_apart}
use Rattle.tracing_appender_rolling.proofs.ByPeriod.{later_is}
use Rattle.tracing_appender_rolling.proofs.FilesInOrder.{monotone, later_seconds}

pub seen_before : (seen : Moment) (hs : List Handed) → seen.seconds ≤ℤ (running_moment seen hs).seconds
seen_before seen [] = omega (arith, signed_arith)
seen_before seen (h ∷ hs) = omega (arith, signed_arith, later_seconds seen h.moment, seen_before (latest_of seen h.moment) hs)

abbrev pub IsBefore : ℤ → Placed → Type 0
IsBefore last x = (x.running.seconds ≤ℤ last) × (is_moment x.running ≡ true)

pub all_before : (seen : Moment) (hs : List Handed) → is_moment seen ≡ true →
    AllByRecursion (λ (h : Handed). is_moment h.moment ≡ true) hs →
    AllByRecursion (IsBefore (running_moment seen hs).seconds) (placed seen hs)
all_before seen [] is all = tt
all_before seen (h ∷ hs) is all =
    let next = later_is seen h.moment (is_earlier seen h.moment) is all.0 in
    ((seen_before (latest_of seen h.moment) hs, next), all_before (latest_of seen h.moment) hs next all.1)

pub running_is : (seen : Moment) (hs : List Handed) → is_moment seen ≡ true →
    AllByRecursion (λ (h : Handed). is_moment h.moment ≡ true) hs → is_moment (running_moment seen hs) ≡ true
running_is seen [] is all = is
running_is seen (h ∷ hs) is all = running_is (latest_of seen h.moment) hs (later_is seen h.moment (is_earlier seen h.moment) is all.0) all.1

module _ (s : PlainSink) (m : Moment) (is_m : is_moment m ≡ true) (is_o : is_moment s.opened ≡ true)
    (all : AllByRecursion (λ (h : Handed). is_moment h.moment ≡ true) s.handed)
    (due : is_due (end_of s.names.kind (running_period s)) m.seconds ≡ true) where
  other_name : (r : Moment) → is_moment r ≡ true → r.seconds ≤ℤ (running_moment s.opened s.handed).seconds →
      bytes_eq (period_name s (period_in s r)) (period_name s (period_in s m)) ≡ false
  other_name r is_r le =
      false_from_ne_true (bytes_eq (period_name s (period_in s r)) (period_name s (period_in s m)))
      (λ same. never (names_apart s.names s.opened.seconds r m is_r is_m
      ((bytes_eq-Decides (period_name s (period_in s r)) (period_name s (period_in s m))).0 same)))
    where
      never : period_at s.names.kind r ≡ period_at s.names.kind m → ⊥
      never same =
          let up = monotone s.names.kind r.seconds (running_moment s.opened s.handed).seconds le in
          let past = (later_due s.names.kind (running_moment s.opened s.handed).seconds m.seconds).0 due in
          omega (arith, signed_arith, same, up, past)

  none_lies : (xs : List Placed) → AllByRecursion (IsBefore (running_moment s.opened s.handed).seconds) xs →
      list_any (lies_in s.names s.opened (period_name s (period_in s m))) xs ≡ false
  none_lies [] each = refl
  none_lies (x ∷ xs) each =
      ap (λ b. b || list_any (lies_in s.names s.opened (period_name s (period_in s m))) xs) (other_name x.running each.0.1 each.0.0) ∙
      none_lies xs each.1

  pub not_opened : was_opened s (period_name s (period_in s m)) ≡ false
  not_opened =
      ap (λ b. b || list_any (lies_in s.names s.opened (period_name s (period_in s m))) (placed_lines s))
      (other_name s.opened is_o (seen_before s.opened s.handed))
      ∙ none_lies (placed_lines s) (all_before s.opened s.handed is_o all)

-- a name that a sink may use is that of a moment's file where it is the first that is opened
abbrev NamedAt : FileNames → List ℕ → Type 0
NamedAt names name = (x : Moment) × (is_moment x ≡ true) × (name ≡ file_name names x.seconds (period_at names.kind x))

opened_itself : (kind : PeriodKind) (prefix suffix : Option (List ℕ)) (o m : Moment) → is_moment o ≡ true → is_moment m ≡ true →
    (x : Moment) × (is_moment x ≡ true) ×
    (joined kind prefix (stamp kind (or_itself (first_second kind (period_at kind m)) o.seconds)) suffix ≡ joined kind prefix
    (stamp kind (or_itself (first_second kind (period_at kind x)) x.seconds)) suffix)
opened_itself Minute prefix suffix o m is_o is_m = (m, is_m, refl)
opened_itself Hour prefix suffix o m is_o is_m = (m, is_m, refl)
opened_itself Day prefix suffix o m is_o is_m = (m, is_m, refl)
opened_itself Week prefix suffix o m is_o is_m = (m, is_m, refl)
opened_itself Whole prefix suffix o m is_o is_m = (o, is_o, refl)

named_at : (names : FileNames) (o m : Moment) → is_moment o ≡ true → is_moment m ≡ true →
    NamedAt names (file_name names o.seconds (period_at names.kind m))
unfolding file_name
named_at names o m is_o is_m = opened_itself names.kind names.prefix names.suffix o m is_o is_m

pub link_differs : (names : FileNames) (o m : Moment) → is_moment o ≡ true → is_moment m ≡ true → HasGoodLink names →
    names.latest ≢ Some (file_name names o.seconds (period_at names.kind m))
link_differs names o m is_o is_m good same =
    let at = named_at names o m is_o is_m in good at.0 at.1 (same ∙ ap (λ (n : List ℕ). Some n) at.2)
