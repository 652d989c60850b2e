use Rattle.std.proofs.Common.{arith, ◌<◌, ◌+◌, ◌*◌}
use Rattle.tracing_core_moments.proofs.DatesFromText.{no_century, no_year, no_month, no_day, no_date, joined}
use Rattle.tracing_core_moments.proofs.read.take_date.Goals as goal

pub returns-in_default-clause-none : goal.returns-in_default-clause-none
returns-in_default-clause-none c = λ day rest is whole. no_century c.args.bytes.now day rest is whole c.in_default.ensures.none

pub returns-in_default-take_two-clause-none : goal.returns-in_default-take_two-clause-none
returns-in_default-take_two-clause-none c = λ day rest is whole.
    no_year c.args.bytes.now day rest is whole c.in-Some.century c.in-Some.after_century.now c.in-Some.ensures.some.0
    c.in-Some.ensures.some.1 c.in_default-take_two.ensures.none

pub returns-in_default-take_field-clause-none : goal.returns-in_default-take_field-clause-none
returns-in_default-take_field-clause-none c = λ day rest is whole.
    no_month c.args.bytes.now day rest is whole c.in-Some.century c.in-Some.after_century.now c.in-Some.ensures.some.0
    c.in-Some.ensures.some.1
    c.in-Some-take_two.year c.in-Some-take_two.after_year.now c.in-Some-take_two.ensures.some.0 c.in-Some-take_two.ensures.some.1
    c.in_default-take_field.ensures.none

pub returns-in_default-take_field-2-clause-none : goal.returns-in_default-take_field-2-clause-none
returns-in_default-take_field-2-clause-none c = λ day rest is whole.
    no_day c.args.bytes.now day rest is whole c.in-Some.century c.in-Some.after_century.now c.in-Some.ensures.some.0
    c.in-Some.ensures.some.1
    c.in-Some-take_two.year c.in-Some-take_two.after_year.now c.in-Some-take_two.ensures.some.0 c.in-Some-take_two.ensures.some.1
    c.in-Some-take_field.month c.in-Some-take_field.after_month.now c.in-Some-take_field.ensures.some.0 c.in-Some-take_field.ensures.some.1
    c.in_default-take_field-2.ensures.none

pub returns-in_default-day_of_date-clause-none : goal.returns-in_default-day_of_date-clause-none
returns-in_default-day_of_date-clause-none c =
    let small : c.in-Some.century * 100 + c.in-Some-take_two.year < 10000 =
    omega (arith, c.in-Some.ensures.some.0, c.in-Some-take_two.ensures.some.0) in
    no_date (record {
      year = c.in-Some.century * 100 + c.in-Some-take_two.year;
      month = c.in-Some-take_field.month;
      day =
          c.in-Some-take_field-2.day;
    })
    (record { year = small; month = c.in-Some-take_field.ensures.some.0; day = c.in-Some-take_field-2.ensures.some.0 })
    c.in_default-day_of_date.ensures.none c.args.bytes.now c.in-Some-take_field-2.after_day.now
    (joined c.args.bytes.now c.in-Some.century c.in-Some.after_century.now c.in-Some.ensures.some.0 c.in-Some.ensures.some.1
    c.in-Some-take_two.year c.in-Some-take_two.after_year.now c.in-Some-take_two.ensures.some.0 c.in-Some-take_two.ensures.some.1
    c.in-Some-take_field.month c.in-Some-take_field.after_month.now c.in-Some-take_field.ensures.some.1
    c.in-Some-take_field-2.day c.in-Some-take_field-2.after_day.now c.in-Some-take_field-2.ensures.some.1)
