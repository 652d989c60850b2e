use Rattle.std.proofs.Common.{ap, sym, ◌∙◌, Some, string_bytes}
use Rattle.std.specs.Option.{option_map}
use Rattle.tracing_core_moments.proofs.Strips.{no_point_at}
use Rattle.tracing_core_moments.proofs.read.without_prefix.Goals as goal

pub returns-in_default-behind-clause-none : goal.returns-in_default-behind-clause-none
returns-in_default-behind-clause-none c =
    no_point_at (option_map string_bytes c.args.prefix.now) c.as_bytes.result.now c.args.name.now c.in-Some-behind.rest.now
    (ap (option_map string_bytes) c.in-Some.is ∙ ap Some (sym c.as_bytes.ensures.value)) c.in-Some-behind.ensures.some
    c.in_default-behind.ensures.none
