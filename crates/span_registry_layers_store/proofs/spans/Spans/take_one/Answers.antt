use Rattle.std.proofs.Common.{◌∙◌, List, ap, sym, refl, Ok}
use Rattle.span_registry_layers_store.specs.Registries.{PlainSpan}
use Rattle.span_registry_layers_store.specs.SpanSlots.{spans_in, standing}
use Rattle.span_registry_layers_store.proofs.Handles.{taken_full, taken_more, taken_unknown}
use Rattle.span_registry_layers_store.proofs.SlotViews.{is_open_nowhere}
use Rattle.span_registry_layers_store.proofs.SlotChanges.{handles_there, more_handles, more_there, open_there, sound_put}
use Rattle.span_registry_layers_store.proofs.spans.Spans.take_one.Goals as goal

pub returns-in_default : goal.returns-in_default
returns-in_default c =
    let xs = c.self.inside.index.slots.items in
    let es = c.self.inside.index.entries.items in
    rw (← c.self.view_is) (sym (taken_unknown (spans_in xs es) c.args.id
    (is_open_nowhere (standing xs es) c.args.id c.in_default.ensures)))

pub returns-then-index : goal.returns-then-index
returns-then-index c =
    let xs = c.self.inside.index.slots.items in
    let es = c.self.inside.index.entries.items in
    let p = c.in-Some.ensures in
    let s = c.index.result.now in
    rw (← c.self.view_is) (sym (taken_full (spans_in xs es) c.args.id s.span.kin.handles
    (open_there xs es c.args.id c.in-Some.slot s p c.index.ensures) (handles_there xs es c.args.id c.in-Some.slot s p c.index.ensures)
    c.if-index.true))

pub invariant_of-self : goal.invariant_of-self
invariant_of-self c =
    let xs = c.self.inside.index.slots.items in
    let es = c.self.inside.index.entries.items in
    let p = c.in-Some.ensures in
    sound_put xs c.self.inside.free es c.args.id c.in-Some.slot c.index_mut.result.now c.self.invariant p c.index_mut.ensures.value
    more_handles (λ x. refl) (λ x. refl) (λ x. refl) refl

pub returns : goal.returns
returns c =
    let xs = c.self.inside.index.slots.items in
    let es = c.self.inside.index.entries.items in
    let p = c.in-Some.ensures in
    let s = c.index.result.now in
    rw (← c.self.view_is) (ap (λ (ss : List PlainSpan). (Ok c.args.id, ss))
    (more_there xs c.self.inside.free es c.args.id c.in-Some.slot c.index_mut.result.now c.self.invariant p c.index_mut.ensures.value)
    ∙ sym (taken_more (spans_in xs es) c.args.id s.span.kin.handles (open_there xs es c.args.id c.in-Some.slot s p c.index.ensures)
    (handles_there xs es c.args.id c.in-Some.slot s p c.index.ensures) c.if-index.false))
