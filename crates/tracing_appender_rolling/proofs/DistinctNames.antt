-- Names of different periods.
use Rattle.std.proofs.Common.{◌≡◌, true, ℕ, ℤ, List, Option, refl}
use Rattle.tracing_core_moments.specs.declared.period.PeriodKind.{PeriodKind}
use Rattle.tracing_core_moments.specs.declared.period.PeriodKind.TheVariants.{Minute, Hour, Day, Week, Whole}
use Rattle.tracing_core_moments.specs.Days.{is_second}
use Rattle.tracing_core_moments.specs.Periods.{period_of, first_second}
use Rattle.tracing_core_moments.specs.Stamps.{stamp, or_itself}
use Rattle.tracing_core_moments.proofs.Names.{differ}
use Rattle.tracing_appender_rolling.specs.Names.{NamesDiffer, joined, file_name}
use Rattle.tracing_appender_rolling.proofs.PeriodFacts.{moment_second}

apart_by_kind : (kind : PeriodKind) (prefix suffix : Option (List ℕ)) (opened s t : ℤ) → is_second s ≡ true → is_second t ≡ true →
    joined kind prefix (stamp kind (or_itself (first_second kind (period_of kind s)) opened)) suffix ≡ joined kind prefix
    (stamp kind (or_itself (first_second kind (period_of kind t)) opened)) suffix → period_of kind s ≡ period_of kind t
apart_by_kind Minute prefix suffix opened s t is_s is_t e = differ Minute prefix suffix s t is_s is_t e
apart_by_kind Hour prefix suffix opened s t is_s is_t e = differ Hour prefix suffix s t is_s is_t e
apart_by_kind Day prefix suffix opened s t is_s is_t e = differ Day prefix suffix s t is_s is_t e
apart_by_kind Week prefix suffix opened s t is_s is_t e = differ Week prefix suffix s t is_s is_t e
apart_by_kind Whole prefix suffix opened s t is_s is_t e = refl

pub names_apart : NamesDiffer
unfolding file_name
names_apart names opened a b is_a is_b same =
    apart_by_kind names.kind names.prefix names.suffix opened a.seconds b.seconds (moment_second a is_a) (moment_second b is_b) same
