use Rattle.std.proofs.Common.{ap, sym, ◌∙◌}
use Rattle.span_registry_layers_store.specs.Lanes.{plain_lanes}
use Rattle.span_registry_layers_store.specs.Places.{kin_of}
use Rattle.span_registry_layers_store.specs.Spans.{is_open}
use Rattle.span_registry_layers_store.proofs.IdOrder.{rising_slice}
use Rattle.span_registry_layers_store.proofs.KeptSpans.{keeps_none, keeps_there}
use Rattle.span_registry_layers_store.proofs.tests.plain.PlainSpans.stays.Goals as goal

pub place_of-requires : goal.place_of-requires
place_of-requires c = rising_slice c.as_slice-spans.result.now c.self.inside.spans.items c.as_slice-spans.ensures.value c.self.invariant

pub later_than-requires : goal.later_than-requires
later_than-requires c = c.in-Some.ensures.within

pub returns-in-None-clause-stays : goal.returns-in-None-clause-stays
returns-in-None-clause-stays c =
    rw (← c.self.view_is) (sym (keeps_none (plain_lanes c.args.lanes.now) c.self.inside.spans.items c.args.id
    (ap (λ xs. is_open kin_of xs c.args.id) (sym c.as_slice-spans.ensures.value) ∙ c.in-None.ensures)))

pub returns-in-Some-clause-stays : goal.returns-in-Some-clause-stays
returns-in-Some-clause-stays c =
    c.stays.ensures ∙ rw (← c.self.view_is)
    (keeps_there (plain_lanes c.args.lanes.now) c.as_slice-spans.result.now c.self.inside.spans.items c.args.id c.in-Some.place
    c.index-spans-place.result c.later_than.result.now c.as_slice-spans.ensures.value c.in-Some.ensures c.index-spans-place.is
    c.later_than.ensures c.self.invariant)

pub returns-in-None-clause-rise : goal.returns-in-None-clause-rise
returns-in-None-clause-rise c = rw (← c.self.view_is) c.self.invariant

pub returns-in-Some-clause-rise : goal.returns-in-Some-clause-rise
returns-in-Some-clause-rise c = rw (← c.self.view_is) c.self.invariant
