use Rattle.std.proofs.Common.{◌≡◌, drop}
use Rattle.std.specs.List.{position_from}
use Rattle.std.specs.Str.{bytes_eq}
use Rattle.tracing_core_fields.specs.Texts.{texts_in}
use Rattle.tracing_core_fields.proofs.texts.Texts.index_of.Given as goal

abbrev pub invariant-loop-index : goal.invariant-loop-index
invariant-loop-index l =
    position_from (λ other. bytes_eq other l.text) l.index (drop l.index (texts_in l.self)) ≡ position_from (λ other. bytes_eq other l.text)
    0 (texts_in l.self)
