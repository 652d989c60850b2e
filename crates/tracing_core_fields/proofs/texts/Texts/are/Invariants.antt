use Rattle.std.proofs.Common.{◌≡◌, drop}
use Rattle.std.specs.Cmp.Lexicographic.{pointwise}
use Rattle.std.specs.Str.{bytes_eq}
use Rattle.tracing_core_fields.specs.Texts.{texts_in}
use Rattle.tracing_core_fields.proofs.texts.Texts.are.Given as goal

abbrev pub invariant-loop-index : goal.invariant-loop-index
invariant-loop-index l =
    pointwise bytes_eq (drop l.index (texts_in l.self)) (drop l.index (texts_in l.others)) ≡ pointwise bytes_eq (texts_in l.self)
    (texts_in l.others)
