use Rattle.std.proofs.Common.{◌∙◌, List, ap, map, sym, subst, refl, Ok}
use Rattle.span_registry_layers_store.specs.Places.{IsPlace, kin_of}
use Rattle.span_registry_layers_store.specs.Registries.{PlainSpan, plain_span}
use Rattle.span_registry_layers_store.specs.Spans.{is_open}
use Rattle.span_registry_layers_store.proofs.Handles.{given_none, given_some, handles_there, less_there, no_handles}
use Rattle.span_registry_layers_store.proofs.IdOrder.{less_rising, rising_slice}
use Rattle.span_registry_layers_store.proofs.tests.plain.PlainSpans.give_up.Goals as goal

pub place_of-requires : goal.place_of-requires
place_of-requires c = rising_slice c.as_slice.result.now c.self.inside.spans.items c.as_slice.ensures.value c.self.invariant

pub returns-in_default : goal.returns-in_default
returns-in_default c =
    let spans = c.self.inside.spans.items in
    rw (← c.self.view_is) (sym (given_none (map plain_span spans) c.args.id 0
    (no_handles spans c.args.id (ap (λ xs. is_open kin_of xs c.args.id) (sym c.as_slice.ensures.value) ∙ c.in_default.ensures)) refl))

pub returns-then-index-eq0 : goal.returns-then-index-eq0
returns-then-index-eq0 c =
    let spans = c.self.inside.spans.items in
    let p : IsPlace spans c.args.id c.in-Some.place = subst (λ xs. IsPlace xs c.args.id c.in-Some.place) c.as_slice.ensures.value
    c.in-Some.ensures in
    let s = c.index.result.now in
    rw (← c.self.view_is) (sym (given_none (map plain_span spans) c.args.id s.kin.handles
    (handles_there spans c.args.id c.in-Some.place s p c.index.ensures) c.if-index-eq0.true))

pub invariant_of-self : goal.invariant_of-self
invariant_of-self c =
    let spans = c.self.inside.spans.items in
    let p : IsPlace spans c.args.id c.in-Some.place = subst (λ xs. IsPlace xs c.args.id c.in-Some.place) c.as_slice.ensures.value
    c.in-Some.ensures in
    less_rising _ (map plain_span spans) c.args.id
    (less_there spans c.args.id c.in-Some.place c.index_mut.result.now p c.index_mut.ensures.value) c.self.invariant

pub returns : goal.returns
returns c =
    let spans = c.self.inside.spans.items in
    let p : IsPlace spans c.args.id c.in-Some.place = subst (λ xs. IsPlace xs c.args.id c.in-Some.place) c.as_slice.ensures.value
    c.in-Some.ensures in
    let s = c.index.result.now in
    rw (← c.self.view_is) (ap (λ (ss : List PlainSpan). (Ok tt, ss))
    (less_there spans c.args.id c.in-Some.place c.index_mut.result.now p c.index_mut.ensures.value)
    ∙ sym (given_some (map plain_span spans) c.args.id s.kin.handles (handles_there spans c.args.id c.in-Some.place s p c.index.ensures)
    c.if-index-eq0.false))
