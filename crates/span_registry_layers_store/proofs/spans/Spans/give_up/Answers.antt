use Rattle.std.proofs.Common.{◌∙◌, List, ap, sym, refl, Ok}
use Rattle.span_registry_layers_store.specs.Registries.{PlainSpan}
use Rattle.span_registry_layers_store.specs.SpanSlots.{spans_in, standing}
use Rattle.span_registry_layers_store.proofs.Handles.{given_none, given_some}
use Rattle.span_registry_layers_store.proofs.SlotViews.{no_handles_shown}
use Rattle.span_registry_layers_store.proofs.SlotChanges.{handles_there, less_handles, less_there, sound_put}
use Rattle.span_registry_layers_store.proofs.spans.Spans.give_up.Goals as goal

pub returns-in_default : goal.returns-in_default
returns-in_default c =
    let xs = c.self.inside.index.slots.items in
    let es = c.self.inside.index.entries.items in
    rw (← c.self.view_is) (sym (given_none (spans_in xs es) c.args.id 0
    (no_handles_shown (standing xs es) c.args.id c.in_default.ensures) refl))

pub returns-then-index-eq0 : goal.returns-then-index-eq0
returns-then-index-eq0 c =
    let xs = c.self.inside.index.slots.items in
    let es = c.self.inside.index.entries.items in
    let p = c.in-Some.ensures in
    let s = c.index.result.now in
    rw (← c.self.view_is) (sym (given_none (spans_in xs es) c.args.id s.span.kin.handles
    (handles_there xs es c.args.id c.in-Some.slot s p c.index.ensures) c.if-index-eq0.true))

pub invariant_of-self : goal.invariant_of-self
invariant_of-self c =
    let xs = c.self.inside.index.slots.items in
    let es = c.self.inside.index.entries.items in
    let p = c.in-Some.ensures in
    sound_put xs c.self.inside.free es c.args.id c.in-Some.slot c.index_mut.result.now c.self.invariant p c.index_mut.ensures.value
    less_handles (λ x. refl) (λ x. refl) (λ x. refl) refl

pub returns : goal.returns
returns c =
    let xs = c.self.inside.index.slots.items in
    let es = c.self.inside.index.entries.items in
    let p = c.in-Some.ensures in
    let s = c.index.result.now in
    rw (← c.self.view_is) (ap (λ (ss : List PlainSpan). (Ok tt, ss))
    (less_there xs c.self.inside.free es c.args.id c.in-Some.slot c.index_mut.result.now c.self.invariant p c.index_mut.ensures.value)
    ∙ sym (given_some (spans_in xs es) c.args.id s.span.kin.handles (handles_there xs es c.args.id c.in-Some.slot s p c.index.ensures)
    c.if-index-eq0.false))
