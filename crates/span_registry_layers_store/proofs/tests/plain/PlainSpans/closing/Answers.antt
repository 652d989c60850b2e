use Rattle.std.proofs.Common.{subst}
use Rattle.span_registry_layers_store.specs.Lanes.{plain_lanes}
use Rattle.span_registry_layers_store.specs.Places.{kin_of}
use Rattle.span_registry_layers_store.specs.Spans.{AllStay, ClosesNext}
use Rattle.span_registry_layers_store.proofs.ForgottenSpans.{all_settled, first_closes}
use Rattle.span_registry_layers_store.proofs.tests.plain.PlainSpans.closing.Goals as goal

pub returns-in-None : goal.returns-in-None
returns-in-None c =
    let lanes = plain_lanes c.args.lanes.now in
    rw (← c.self.view_is) (all_settled lanes c.self.inside.spans.items
    (subst (λ xs. AllStay kin_of lanes xs) c.as_slice.ensures.value c.in-None.ensures))

pub returns-in-Some : goal.returns-in-Some
returns-in-Some c =
    let lanes = plain_lanes c.args.lanes.now in
    let place = c.in-Some.place in
    rw (← c.self.view_is) (first_closes lanes c.self.inside.spans.items place c.index.result.now c.index.ensures c.self.invariant
    (subst (λ xs. ClosesNext kin_of lanes xs place) c.as_slice.ensures.value c.in-Some.ensures))
