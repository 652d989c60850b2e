use Rattle.std.proofs.Common.{length}
use Rattle.tracing_core_fields.specs.declared.requests.interest.InterestInner.TheVariants.{Never}
use Rattle.tracing_core_fields.specs.requests.Interests.{PlainInterest}
use Rattle.tracing_core_fields.specs.Metadata.{plain_metadata}
use Rattle.span_registry_layers_layers.specs.Several.{SaysFrom}
use Rattle.span_registry_layers_layers.proofs.layer.several.joined_interest.Given as goal

abbrev pub invariant-loop-rest : goal.invariant-loop-rest
invariant-loop-rest g l = (k : PlainInterest) → SaysFrom g.L.Layer l.interest l.rest (plain_metadata l.metadata) k →
    SaysFrom g.L.Layer Never l.fn.layers (plain_metadata l.metadata) k

abbrev pub decreases-loop-rest : goal.decreases-loop-rest
decreases-loop-rest g l = length l.rest
