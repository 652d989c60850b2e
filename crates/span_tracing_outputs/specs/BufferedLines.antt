-- The lines of a request that were not handed on yet.
use Rattle.std.specs.Prelude.{List, ℕ, map, take, Result}
use Rattle.std.specs.declared.io.Error.{Error}
use Rattle.tracing_core_fields.specs.PlainMetadata.{PlainMetadata}
use Rattle.span_tracing_outputs.specs.LayerAgreement.{Keeps}
use Rattle.span_tracing_outputs.specs.OutputMachines.{PlainLine}
use Rattle.span_tracing_outputs.specs.declared.pending.PendingLine.{PendingLine}

abbrev pub plain_line : PendingLine → PlainLine
plain_line line = record { level = line.level; bytes = line.bytes.items }

-- of a list of buffers so many hold lines
abbrev pub lines_of : List PendingLine → ℕ → List PlainLine
lines_of buffers used = map plain_line (take used buffers)

abbrev pub TakesLine : List PlainLine → PlainMetadata → List ℕ → Result (Unit {0}) Error → List PlainLine → Type 0
TakesLine x m line answer y = Keeps (λ lines. lines) x m line answer y
