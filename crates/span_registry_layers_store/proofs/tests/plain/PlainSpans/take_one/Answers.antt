use Rattle.std.proofs.Common.{◌∙◌, List, ap, map, sym, subst, Ok}
use Rattle.span_registry_layers_store.specs.Places.{IsPlace, kin_of}
use Rattle.span_registry_layers_store.specs.Registries.{PlainSpan, plain_span}
use Rattle.span_registry_layers_store.specs.Spans.{is_open}
use Rattle.span_registry_layers_store.proofs.Handles.{handles_there, is_there, more_there, taken_full, taken_more, taken_unknown}
use Rattle.span_registry_layers_store.proofs.PlainSpans.{open_mapped}
use Rattle.span_registry_layers_store.proofs.IdOrder.{more_rising, rising_slice}
use Rattle.span_registry_layers_store.proofs.tests.plain.PlainSpans.take_one.Goals as goal

pub place_of-requires : goal.place_of-requires
place_of-requires c = rising_slice c.as_slice.result.now c.self.inside.spans.items c.as_slice.ensures.value c.self.invariant

pub returns-in_default : goal.returns-in_default
returns-in_default c =
    let spans = c.self.inside.spans.items in
    rw (← c.self.view_is) (sym (taken_unknown (map plain_span spans) c.args.id (open_mapped spans c.args.id ∙
    ap (λ xs. is_open kin_of xs c.args.id) (sym c.as_slice.ensures.value) ∙ c.in_default.ensures)))

pub returns-then-index : goal.returns-then-index
returns-then-index c =
    let spans = c.self.inside.spans.items in
    let p : IsPlace spans c.args.id c.in-Some.place = subst (λ xs. IsPlace xs c.args.id c.in-Some.place) c.as_slice.ensures.value
    c.in-Some.ensures in
    let s = c.index.result.now in
    rw (← c.self.view_is) (sym (taken_full (map plain_span spans) c.args.id s.kin.handles
    (is_there spans c.args.id c.in-Some.place s p c.index.ensures) (handles_there spans c.args.id c.in-Some.place s p c.index.ensures)
    c.if-index.true))

pub invariant_of-self : goal.invariant_of-self
invariant_of-self c =
    let spans = c.self.inside.spans.items in
    let p : IsPlace spans c.args.id c.in-Some.place = subst (λ xs. IsPlace xs c.args.id c.in-Some.place) c.as_slice.ensures.value
    c.in-Some.ensures in
    more_rising _ (map plain_span spans) c.args.id
    (more_there spans c.args.id c.in-Some.place c.index_mut.result.now p c.index_mut.ensures.value) c.self.invariant

pub returns : goal.returns
returns c =
    let spans = c.self.inside.spans.items in
    let p : IsPlace spans c.args.id c.in-Some.place = subst (λ xs. IsPlace xs c.args.id c.in-Some.place) c.as_slice.ensures.value
    c.in-Some.ensures in
    let s = c.index.result.now in
    rw (← c.self.view_is) (ap (λ (ss : List PlainSpan). (Ok c.args.id, ss))
    (more_there spans c.args.id c.in-Some.place c.index_mut.result.now p c.index_mut.ensures.value)
    ∙ sym (taken_more (map plain_span spans) c.args.id s.kin.handles (is_there spans c.args.id c.in-Some.place s p c.index.ensures)
    (handles_there spans c.args.id c.in-Some.place s p c.index.ensures) c.if-index.false))
