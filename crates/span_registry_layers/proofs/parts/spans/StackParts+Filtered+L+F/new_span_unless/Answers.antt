use Rattle.std.proofs.Common.{sym, ap, ◌∙◌, subst}
use Rattle.tracing_core_fields.specs.requests.PlainRequests.{plain_attributes}
use Rattle.span_registry_layers_store.specs.Registries.{knows}
use Rattle.span_registry_layers_layers.specs.declared.filtered.Filtered.{Filtered}
use Rattle.span_registry_layers.specs.Calls.{AsksUnless, MakesSpan}
use Rattle.span_registry_layers.specs.Stacks.{StackValue, cleared, plain_stack}
use Rattle.span_registry_layers.proofs.NewSpans.{span_dropped, span_made}
use Rattle.span_registry_layers.proofs.parts.spans.StackParts+Filtered+L+F.new_span_unless.Goals as goal

pub returns-then-not-passes : goal.returns-then-not-passes
returns-then-not-passes g c =
    let s = plain_stack c.args.self.now in
    let asked = c.ask_span-verdicts.result in
    span_dropped g.F.Filter g.L.Layer c.args.refused asked.1 asked.0.passed (plain_attributes c.args.attributes.now) c.args.at s
    (plain_stack c.clear.new.self)
    (ap (knows s.registry) (sym c.parent.ensures) ∙ sym c.knows.ensures ∙ c.if-not-knows.false)
    (subst (λ m. AsksUnless g.F.Filter g.L.Layer c.args.refused m c.args.at s asked.0.passed asked.1) c.metadata.ensures.plain
    c.ask_span-verdicts.ensures.asked)
    c.if-not-passes.true (c.clear.ensures ∙ ap (λ (v : StackValue (Filtered g.row.L.Denot g.row.F.Denot)). cleared v)
    c.ask_span-verdicts.ensures.same)

pub returns : goal.returns
returns g c =
    let s = plain_stack c.args.self.now in
    let asked = c.ask_span-verdicts.result in
    let a = plain_attributes c.args.attributes.now in
    span_made g.F.Filter g.L.Layer c.args.refused asked.1 asked.0.passed a c.args.at s c.make_span.result (plain_stack c.make_span.new.self)
    (ap (knows s.registry) (sym c.parent.ensures) ∙ sym c.knows.ensures ∙ c.if-not-knows.false)
    (subst (λ m. AsksUnless g.F.Filter g.L.Layer c.args.refused m c.args.at s asked.0.passed asked.1) c.metadata.ensures.plain
    c.ask_span-verdicts.ensures.asked)
    c.if-not-passes.false (subst (λ (v : StackValue (Filtered g.row.L.Denot g.row.F.Denot)). MakesSpan g.F.Filter g.L.Layer a c.args.at
    asked.0.passed v c.make_span.result (plain_stack c.make_span.new.self)) c.ask_span-verdicts.ensures.same c.make_span.ensures)
