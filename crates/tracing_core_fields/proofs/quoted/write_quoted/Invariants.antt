use Rattle.std.proofs.Common.{◌∷◌}
use Rattle.std.specs.Fmt.{HasWrittenStyled, IsFlush}
use Rattle.std.specs.List.{flat_map}
use Rattle.tracing_core_fields.specs.Quoted.{quoted_char}
use Rattle.tracing_core_fields.proofs.quoted.write_quoted.Given as goal

abbrev pub invariant-loop-c : goal.invariant-loop-c
invariant-loop-c g l =
    IsFlush l.fn.f → HasWrittenStyled g.W.Write.write_str_gives l.fn.f (34 ∷ flat_map quoted_char l.yielded) l.f
