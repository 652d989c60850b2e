use Rattle.std.proofs.Common.{◌∷◌, take}
use Rattle.std.specs.Fmt.{HasWrittenStyled, IsFlush}
use Rattle.std.specs.List.{flat_map}
use Rattle.tracing_core_fields.specs.PlainDebug.{hex_pair}
use Rattle.tracing_core_fields.proofs.debug_text.write_later_bytes.Given as goal

abbrev pub invariant-loop-byte : goal.invariant-loop-byte
invariant-loop-byte g l =
    IsFlush l.initial.f → HasWrittenStyled g.W.Write.write_str_gives l.initial.f
    (flat_map (λ byte. 32 ∷ hex_pair byte) (take l.byte-index l.bytes)) l.f
