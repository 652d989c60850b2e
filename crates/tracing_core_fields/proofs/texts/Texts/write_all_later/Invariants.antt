use Rattle.std.proofs.Common.{◌++◌, drop, take}
use Rattle.std.specs.Fmt.{HasWritten, IsPlainFormatter, comma_space}
use Rattle.std.specs.List.{flat_map}
use Rattle.tracing_core_fields.specs.Texts.{texts_in}
use Rattle.tracing_core_fields.proofs.texts.Texts.write_all_later.Given as goal

abbrev pub invariant-loop-index : goal.invariant-loop-index
invariant-loop-index g l =
    IsPlainFormatter l.initial.f → HasWritten g.W.Write.write_str_gives l.initial.f
    (flat_map (λ name. comma_space ++ name) (drop 1 (take l.index (texts_in l.self)))) l.f
