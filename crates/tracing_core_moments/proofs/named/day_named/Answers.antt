use Rattle.std.proofs.Common.{arith}
use Rattle.jiff_core.proofs.SignedLemmas.{signed_arith}
use Rattle.tracing_core_moments.proofs.NamesWithoutPeriod.{day_unnamed}
use Rattle.tracing_core_moments.proofs.named.day_named.Goals.{else-second-geminus62135596800-via-then-second-geminus62135596800+else-second-le253370764799}
use Rattle.tracing_core_moments.proofs.named.day_named.Goals.{else-second-geminus62135596800-via-else-second-geminus62135596800}
use Rattle.tracing_core_moments.proofs.named.day_named.Goals as goal

pub returns-else-second-geminus62135596800-clause-none : goal.returns-else-second-geminus62135596800-clause-none
returns-else-second-geminus62135596800-clause-none c =
    day_unnamed c.in-Some.second c.args.name.now c.in-Some.ensures.some.0 c.in-Some.ensures.some.1 c.in-Some.ensures.some.2
    (λ low high. elim c.else-second-geminus62135596800.branch [
      | else-second-geminus62135596800-via-then-second-geminus62135596800+else-second-le253370764799 w ↦ omega
          (arith, signed_arith, high, w.if-second-le253370764799)
      | else-second-geminus62135596800-via-else-second-geminus62135596800 w ↦ omega
          (arith, signed_arith, low, w.if-second-geminus62135596800)
    ])
