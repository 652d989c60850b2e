use Rattle.std.proofs.Common.{refl}
use Rattle.span_registry_layers_store.proofs.SoundSlots.{less_at, less_nowhere}
use Rattle.span_registry_layers_store.proofs.slot_index.SlotIndex.drop_child.Goals as goal

pub returns-in-Some-slot_of-clause-counts : goal.returns-in-Some-slot_of-clause-counts
returns-in-Some-slot_of-clause-counts c =
    let i = c.args.self.now in
    less_at i.slots _ i.entries.items c.args.parent c.in-Some.id c.in-Some-slot_of.slot c.index_mut.result.now c.in-Some.is
    c.in-Some-slot_of.ensures c.index_mut.ensures.value c.requires.rise refl c.drop_child.new.self c.drop_child.ensures refl

pub returns-in_default-slot_of-clause-counts : goal.returns-in_default-slot_of-clause-counts
returns-in_default-slot_of-clause-counts c =
    let i = c.args.self.now in
    less_nowhere i.slots i.entries.items c.args.parent c.in-Some.id c.in-Some.is c.in_default-slot_of.ensures
