use Rattle.std.proofs.Common.{arith, ap, ◌<◌, ◌/◌, ◌%◌, get_or}
use Rattle.tracing_core_moments.proofs.read.take_two.Goals as goal

pub returns-in_default-digit_of-clause-none : goal.returns-in_default-digit_of-clause-none
returns-in_default-digit_of-clause-none c = λ number rest lt is.
    let small : number / 10 < 10 = omega (arith, lt) in
    c.in_default-digit_of.ensures.none (number / 10) small (ap (λ bytes. get_or bytes 0 0) is)

pub returns-in_default-digit_of-2-clause-none : goal.returns-in_default-digit_of-2-clause-none
returns-in_default-digit_of-2-clause-none c = λ number rest lt is.
    let small : number % 10 < 10 = omega arith in
    c.in_default-digit_of-2.ensures.none (number % 10) small (ap (λ bytes. get_or bytes 1 0) is)
