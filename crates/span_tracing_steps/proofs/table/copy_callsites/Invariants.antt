use Rattle.std.proofs.Common.{◌≡◌, map, take}
use Rattle.tracing_core_fields.specs.OwnedMetadatas.{owned_plain}
use Rattle.span_tracing_steps.specs.States.{callsites_of}
use Rattle.span_tracing_steps.proofs.table.copy_callsites.Given as goal

abbrev pub invariant-loop-registered : goal.invariant-loop-registered
invariant-loop-registered l = map owned_plain l.copy.items ≡ callsites_of (take l.registered-index l.callsites)
