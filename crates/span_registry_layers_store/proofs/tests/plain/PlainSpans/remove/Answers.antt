use Rattle.std.proofs.Common.{ap, sym, ◌∙◌}
use Rattle.span_registry_layers_store.specs.Places.{kin_of}
use Rattle.span_registry_layers_store.specs.Spans.{is_open}
use Rattle.span_registry_layers_store.proofs.ForgottenSpans.{no_parent, none_dropped, parent_there, removed_at}
use Rattle.span_registry_layers_store.proofs.IdOrder.{removed_rising, rising_slice}
use Rattle.span_registry_layers_store.proofs.tests.plain.PlainSpans.remove.Goals as goal

pub place_of-requires : goal.place_of-requires
place_of-requires c = rising_slice c.as_slice.result.now c.self.inside.spans.items c.as_slice.ensures.value c.self.invariant

pub invariant_of-self : goal.invariant_of-self
invariant_of-self c = removed_rising c.self.inside.spans.items c.remove-span.new.self.items c.in-Some.place c.remove-span.ensures.items
    c.self.invariant

pub returns-in-Some-clause-left : goal.returns-in-Some-clause-left
returns-in-Some-clause-left c =
    rw (← c.self.view_is) (removed_at c.as_slice.result.now c.self.inside.spans.items c.remove-span.new.self.items c.args.id c.in-Some.place
    c.remove-span.result c.as_slice.ensures.value c.in-Some.ensures c.remove-span.ensures.value c.remove-span.ensures.items
    c.self.invariant)

pub returns-in-None-clause-left : goal.returns-in-None-clause-left
returns-in-None-clause-left c =
    rw (← c.self.view_is) (sym (none_dropped c.self.inside.spans.items c.args.id
    (ap (λ xs. is_open kin_of xs c.args.id) (sym c.as_slice.ensures.value) ∙ c.in-None.ensures)))

pub returns-in-Some-clause-parent : goal.returns-in-Some-clause-parent
returns-in-Some-clause-parent c =
    rw (← c.self.view_is) (parent_there c.as_slice.result.now c.self.inside.spans.items c.args.id c.in-Some.place c.remove-span.result
    c.as_slice.ensures.value c.in-Some.ensures c.remove-span.ensures.value)

pub returns-in-None-clause-parent : goal.returns-in-None-clause-parent
returns-in-None-clause-parent c =
    rw (← c.self.view_is) (sym (no_parent c.self.inside.spans.items c.args.id
    (ap (λ xs. is_open kin_of xs c.args.id) (sym c.as_slice.ensures.value) ∙ c.in-None.ensures)))

pub returns-in-Some-clause-rise : goal.returns-in-Some-clause-rise
returns-in-Some-clause-rise c = rw (← c.self.view_is) c.self.invariant

pub returns-in-None-clause-rise : goal.returns-in-None-clause-rise
returns-in-None-clause-rise c = rw (← c.self.view_is) c.self.invariant
