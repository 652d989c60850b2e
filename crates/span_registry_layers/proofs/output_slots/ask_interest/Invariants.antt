use Rattle.std.proofs.Common.{length, None}
use Rattle.tracing_core_fields.specs.requests.Interests.{PlainInterest}
use Rattle.tracing_core_fields.specs.Metadata.{plain_metadata}
use Rattle.span_registry_layers.specs.CommonAnswers.{InterestFrom}
use Rattle.span_registry_layers.specs.OutputSlots.{filters_of}
use Rattle.span_registry_layers.proofs.output_slots.ask_interest.Given as goal

abbrev pub invariant-loop-rest : goal.invariant-loop-rest
invariant-loop-rest g l = (k : PlainInterest) → InterestFrom g.F.Filter (plain_metadata l.metadata) l.interest (filters_of l.rest) k →
    InterestFrom g.F.Filter (plain_metadata l.metadata) None (filters_of l.fn.rows) k

abbrev pub decreases-loop-rest : goal.decreases-loop-rest
decreases-loop-rest g l = length l.rest
