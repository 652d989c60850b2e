use Rattle.std.proofs.Common.{ap, ◌∙◌, subst}
use Rattle.tracing_core_fields.specs.requests.PlainRequests.{plain_event}
use Rattle.span_registry_layers.specs.Stacks.{EventUnless, is_refused, plain_stack}
use Rattle.span_registry_layers.proofs.parts.StackParts+Filtered+L+F.event.Goals as goal

pub returns : goal.returns
returns g c =
    let s = plain_stack c.args.self.now in
    subst (λ b. EventUnless g.F.Filter g.L.Layer b (plain_event c.args.event.now) c.args.at s c.event_unless.result
    (plain_stack c.event_unless.new.self))
    (c.refuses-refused.ensures ∙ ap (is_refused s) c.metadata.ensures.plain) c.event_unless.ensures
