use Rattle.std.proofs.Common.{ap, refl, Some}
use Rattle.tracing_appender.specs.Contents.{Contents}
use Rattle.tracing_appender.specs.Memory.{nothing_there}
use Rattle.uses.proofs.rolling.open_daily.Goals as goal

pub returns-in-Ok : goal.returns-in-Ok
returns-in-Ok c =
    (c.in-Ok.ensures.sink nothing_there (ap (λ (x : Contents). Some x) c.new.ensures.contents)
    (record { sound = λ n. refl; once = tt; unlinked = λ o m is_o is_m. refl; link_free = tt })).agrees
