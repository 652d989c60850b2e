use Rattle.std.proofs.Common.{◌∙◌, sym}
use Rattle.tracing_core_fields.specs.Metadata.{plain_metadata}
use Rattle.span_registry_layers.proofs.NotedRefusals.{refused_at}
use Rattle.span_registry_layers.proofs.interest_cache.refuses_at.Goals as goal

pub returns-in-Some : goal.returns-in-Some
returns-in-Some c = λ holds.
    refused_at (plain_metadata c.args.metadata.now) c.args.interest_cache.now c.args.index c.in-Some.site.now c.in-Some.ensures.lookup.3.0
    (c.in-Some.ensures.lookup.3.1 c.in-Some.site.now) (sym c.refuses.ensures ∙ holds)
