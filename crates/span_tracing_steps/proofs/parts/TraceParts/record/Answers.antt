use Rattle.std.proofs.Common.{refl, sym, ◌∙◌}
use Rattle.span_tracing_steps.specs.States.{value_in}
use Rattle.span_tracing_steps.proofs.UnrefusedRequests.{values_given}
use Rattle.span_tracing_steps.proofs.parts.TraceParts.record.Goals as goal

pub returns-clause-gives : goal.returns-clause-gives
returns-clause-gives g c =
    values_given g.T.Subscriber g.T.HasRegistry.registry_of g.T.HasOutputs.set (value_in c.args.self.now) c.record_at-told.new.self c.handle_of-handle.result
    c.in-Some-span.name.stack c.handle_of-handle.ensures c.args.request.now c.in-Some-span.name c.id_of.result c.callsite_of.result
    c.in-Some-callsite_of.index c.at_of-at.result c.record_at-told.result refl c.id_of.ensures c.at_of-at.ensures c.in-Some-span.is
    c.in-Some-callsite_of.is c.callsite_of.ensures.names c.callsite_of.ensures.there (sym c.values_refusal.ensures ∙ c.in_default.is)
    c.record_at-told.ensures.gives
