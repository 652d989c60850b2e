use Rattle.std.proofs.Common.{ap, ◌∙◌, string_bytes}
use Rattle.std.specs.Option.{option_map}
use Rattle.tracing_core_moments.specs.declared.period.PeriodKind.TheVariants.{Whole}
use Rattle.tracing_core_moments.specs.Stamps.{stamp}
use Rattle.tracing_core_moments.proofs.NamesWithoutPeriod.{lasting_is, both_some, both_none}
use Rattle.tracing_core_moments.proofs.named.lasting_named.Goals as goal

pub returns-in_default-clause-none : goal.returns-in_default-clause-none
returns-in_default-clause-none c = λ t is e.
    let prefix = option_map string_bytes c.args.prefix.now in
    let suffix = option_map string_bytes c.args.suffix.now in
    c.in_default.ensures.none (string_bytes c.in-Some-Some.last)
    (e ∙ lasting_is prefix suffix (string_bytes c.in-Some-Some.field-0-0) (string_bytes c.in-Some-Some.last) (stamp Whole t)
    (ap (option_map string_bytes) c.in-Some-Some.is-0) (ap (option_map string_bytes) c.in-Some-Some.is-1))

pub returns-in-Some-clause-some : goal.returns-in-Some-clause-some
returns-in-Some-clause-some c =
    both_some (option_map string_bytes c.args.prefix.now) (option_map string_bytes c.args.suffix.now)
    (string_bytes c.in-Some-Some.field-0-0) (string_bytes c.in-Some-Some.last) c.in-Some.rest.now c.args.name.now
    (ap (option_map string_bytes) c.in-Some-Some.is-0) (ap (option_map string_bytes) c.in-Some-Some.is-1) c.in-Some.ensures.some
    c.zero_if.result
    (rw (c.eq.ensures, c.as_bytes.ensures.value) at c.zero_if.ensures.some)

pub returns-in-Some-clause-none : goal.returns-in-Some-clause-none
returns-in-Some-clause-none c =
    both_none (option_map string_bytes c.args.prefix.now) (option_map string_bytes c.args.suffix.now)
    (string_bytes c.in-Some-Some.field-0-0) (string_bytes c.in-Some-Some.last) c.in-Some.rest.now c.args.name.now
    (ap (option_map string_bytes) c.in-Some-Some.is-0) (ap (option_map string_bytes) c.in-Some-Some.is-1) c.in-Some.ensures.some
    c.zero_if.result
    (rw (c.eq.ensures, c.as_bytes.ensures.value) at c.zero_if.ensures.none)
