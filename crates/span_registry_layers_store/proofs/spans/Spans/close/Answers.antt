use Rattle.std.proofs.Common.{◌∙◌, ap, sym, refl, subst, Vec}
use Rattle.std.specs.Global.{Global}
use Rattle.span_registry_layers_store.specs.SpanSlots.{AreSound, spans_in}
use Rattle.span_registry_layers_store.specs.declared.index.Entry.{Entry}
use Rattle.span_registry_layers_store.proofs.IndexedSlots.{vacated_indexed}
use Rattle.span_registry_layers_store.proofs.SoundSlots.{removed_sound, removed_view, room_there}
use Rattle.span_registry_layers_store.proofs.SlotChanges.{keeps_nowhere, keeps_there, parent_there, reads, rise_told}
use Rattle.span_registry_layers_store.proofs.spans.Spans.close.Goals as goal

pub returns-in_default-clause-closes : goal.returns-in_default-clause-closes
returns-in_default-clause-closes c = rw (← c.self.view_is) (
  sym (keeps_nowhere c.args.lanes.now c.self.inside.index.slots.items
      c.self.inside.index.entries.items c.args.id c.in_default.ensures),
  refl,
)

pub returns-in_default-clause-rise : goal.returns-in_default-clause-rise
returns-in_default-clause-rise c = rw (← c.self.view_is) (rise_told c.self.inside.index.slots.items c.self.inside.index.entries.items
    c.self.invariant.rise)

pub returns-then-stays-clause-closes : goal.returns-then-stays-clause-closes
returns-then-stays-clause-closes c =
    let xs = c.self.inside.index.slots.items in
    let es = c.self.inside.index.entries.items in
    let p = c.in-Some.ensures in
    rw (← c.self.view_is) (
      sym (keeps_there xs es c.args.id c.in-Some.slot c.index.result.now p c.index.ensures c.args.lanes.now
          c.self.invariant.children) ∙ sym c.stays.ensures ∙ c.if-stays.true,
      refl,
    )

pub returns-then-stays-clause-rise : goal.returns-then-stays-clause-rise
returns-then-stays-clause-rise c = rw (← c.self.view_is) (rise_told c.self.inside.index.slots.items c.self.inside.index.entries.items
    c.self.invariant.rise)

pub vacate-requires-clause-room : goal.vacate-requires-clause-room
vacate-requires-clause-room c =
    let xs = c.self.inside.index.slots.items in
    let es = c.self.inside.index.entries.items in
    let p = c.in-Some.ensures in
    room_there xs c.self.inside.free es c.args.id c.in-Some.slot c.index.result.now c.self.invariant p c.index.ensures

pub drop_child-requires-clause-indexed : goal.drop_child-requires-clause-indexed
drop_child-requires-clause-indexed c =
    let xs = c.self.inside.index.slots.items in
    let es = c.self.inside.index.entries.items in
    let p = c.in-Some.ensures in
    vacated_indexed xs c.vacate.new.slots.items es c.in-Some.slot c.index.result.now p.within
    (reads xs es c.args.id c.in-Some.slot c.index.result.now p c.index.ensures) c.vacate.ensures.slots c.self.invariant.indexed

pub invariant_of-self : goal.invariant_of-self
invariant_of-self c =
    let xs = c.self.inside.index.slots.items in
    let es = c.self.inside.index.entries.items in
    let p = c.in-Some.ensures in
    subst (λ (v : Vec Entry Global). AreSound c.drop_child.new.self.slots.items c.vacate.new.free v.items)
    (sym c.drop_child.ensures.entries)
    (removed_sound xs c.self.inside.free es c.args.id c.in-Some.slot c.index-3.result.now c.self.invariant p c.index-3.ensures
    c.vacate.new.slots.items c.drop_child.new.self.slots.items c.vacate.new.free c.parent_before-counted.result c.vacate.ensures.slots
    c.vacate.ensures.free c.vacate.ensures.capacity c.drop_child.ensures.counts.size c.parent_before-counted.ensures
    c.drop_child.ensures.counts.standing_is c.drop_child.ensures.counts.still_free c.drop_child.ensures.counts.still_indexed)

pub returns-clause-closes : goal.returns-clause-closes
returns-clause-closes c =
    let xs = c.self.inside.index.slots.items in
    let es = c.self.inside.index.entries.items in
    let p = c.in-Some.ensures in
    let there = keeps_there xs es c.args.id c.in-Some.slot c.index.result.now p c.index.ensures c.args.lanes.now
    c.self.invariant.children in
    rw (← c.self.view_is) (
      sym there ∙ sym c.stays.ensures ∙ c.if-stays.false,
      c.parent_of-parent.ensures ∙ sym (parent_there xs es c.args.id c.in-Some.slot c.index-2.result.now p c.index-2.ensures),
      ap (λ (v : Vec Entry Global). spans_in c.drop_child.new.self.slots.items v.items) c.drop_child.ensures.entries ∙
          removed_view xs c.self.inside.free es c.args.id c.in-Some.slot c.index-3.result.now c.self.invariant p c.index-3.ensures
          c.vacate.new.slots.items c.drop_child.new.self.slots.items c.vacate.new.free c.parent_before-counted.result c.vacate.ensures.slots
          c.vacate.ensures.free c.vacate.ensures.capacity c.drop_child.ensures.counts.size c.parent_before-counted.ensures
          c.drop_child.ensures.counts.standing_is c.drop_child.ensures.counts.still_free c.drop_child.ensures.counts.still_indexed,
    )

pub returns-clause-rise : goal.returns-clause-rise
returns-clause-rise c = rw (← c.self.view_is) (rise_told c.self.inside.index.slots.items c.self.inside.index.entries.items
    c.self.invariant.rise)
