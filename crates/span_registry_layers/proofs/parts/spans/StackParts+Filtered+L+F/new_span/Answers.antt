use Rattle.std.proofs.Common.{ap, ◌∙◌, subst}
use Rattle.tracing_core_fields.specs.requests.PlainRequests.{plain_attributes}
use Rattle.span_registry_layers.specs.Calls.{NewSpanUnless}
use Rattle.span_registry_layers.specs.Stacks.{is_refused, plain_stack}
use Rattle.span_registry_layers.proofs.parts.spans.StackParts+Filtered+L+F.new_span.Goals as goal

pub returns : goal.returns
returns g c =
    let s = plain_stack c.args.self.now in
    subst (λ b. NewSpanUnless g.F.Filter g.L.Layer b (plain_attributes c.args.attributes.now) c.args.at s c.new_span_unless.result
    (plain_stack c.new_span_unless.new.self))
    (c.refuses-refused.ensures ∙ ap (is_refused s) c.metadata.ensures.plain) c.new_span_unless.ensures
