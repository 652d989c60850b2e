use Rattle.std.proofs.Common.{sym, ◌∙◌}
use Rattle.span_tracing_steps.specs.States.{value_in}
use Rattle.span_tracing_steps.proofs.UnrefusedRequests.{span_given}
use Rattle.span_tracing_steps.proofs.parts.TraceParts.new_span.Goals as goal

pub returns-clause-gives : goal.returns-clause-gives
returns-clause-gives g c =
    span_given g.T.Subscriber g.T.HasRegistry.registry_of g.T.HasOutputs.set (value_in c.args.self.now) c.new_span_at.new.self
    c.weak_of-handle.result
    c.in-Some-reached.stack c.weak_of-handle.ensures c.args.span.now c.find_for.result c.in-Ok.index c.parent_of-parent.result
    c.at_of-at.result c.new_span_at.result c.in-Some-new_span_at.made c.reply_of.result c.parent_of-parent.ensures c.at_of-at.ensures
    c.in-Ok.is c.find_for.ensures (sym c.ids_refusal.ensures ∙ c.in_default.is) (sym c.reach-reached.ensures ∙ c.in-Some-reached.is)
    c.in-Some-new_span_at.is c.reply_of.ensures c.new_span_at.ensures.gives
