use Rattle.std.proofs.Common.{string_bytes}
use Rattle.std.specs.Option.{option_map}
use Rattle.tracing_core_moments.proofs.NamesWithoutPeriod.{taken_dated, unbegun}
use Rattle.tracing_core_moments.proofs.named.dated_named.Goals as goal

pub returns-in_default-starting_at-clause-none : goal.returns-in_default-starting_at-clause-none
returns-in_default-starting_at-clause-none c =
    unbegun c.args.kind (option_map string_bytes c.args.prefix.now) (option_map string_bytes c.args.suffix.now) c.args.name.now
    c.in-Some.first c.in-Some.ensures.some.0 c.in-Some.ensures.some.1 c.in-Some.ensures.some.2
    (rw (taken_dated c.in-Some.first c.in-Some.ensures.some.0) at c.in_default-starting_at.ensures.none)
