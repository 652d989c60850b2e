use Rattle.std.proofs.Common.{subst}
use Rattle.span_registry_layers_store.specs.SpanSlots.{holds_in}
use Rattle.std.proofs.Common.{◌≡◌, slice_get, true}
use Rattle.span_registry_layers_store.proofs.SlotChanges.{index_told}
use Rattle.span_registry_layers_store.proofs.StandingSlots.{slot_shown}
use Rattle.span_registry_layers_store.proofs.slot_index.SlotIndex.slot_of.Goals as goal

pub returns-in-Some : goal.returns-in-Some
returns-in-Some c =
    let i = c.args.self.now in
    slot_shown i.slots.items i.entries.items c.args.id c.in-Some.slot c.requires.rise c.requires.indexed
    (subst (λ ss. holds_in c.args.id (slice_get ss c.in-Some.slot) ≡ true) c.as_slice.ensures.value c.in-Some.ensures)

pub returns-in-None : goal.returns-in-None
returns-in-None c =
    let i = c.args.self.now in
    index_told c.slot_by_halves.result c.as_slice-in-None.result.now i.slots.items c.as_slice-in-None-2.result.now i.entries.items c.args.id
    c.as_slice-in-None.ensures.value c.as_slice-in-None-2.ensures.value c.slot_by_halves.ensures
