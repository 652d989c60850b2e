use Rattle.std.proofs.Common.{ap, sym, ◌∙◌, Some, string_bytes}
use Rattle.std.specs.Option.{option_map}
use Rattle.tracing_core_moments.proofs.Strips.{no_part_at, no_point_behind_at}
use Rattle.tracing_core_moments.proofs.read.without_suffix.Goals as goal

pub returns-in_default-clause-none : goal.returns-in_default-clause-none
returns-in_default-clause-none c =
    no_part_at (option_map string_bytes c.args.suffix.now) c.as_bytes.result.now c.args.name.now
    (ap (option_map string_bytes) c.in-Some.is ∙ ap Some (sym c.as_bytes.ensures.value)) c.in_default.ensures.none

pub returns-in_default-before-clause-none : goal.returns-in_default-before-clause-none
returns-in_default-before-clause-none c =
    no_point_behind_at (option_map string_bytes c.args.suffix.now) c.as_bytes.result.now c.args.name.now c.in-Some-before.rest.now
    (ap (option_map string_bytes) c.in-Some.is ∙ ap Some (sym c.as_bytes.ensures.value)) c.in-Some-before.ensures.some
    c.in_default-before.ensures.none
