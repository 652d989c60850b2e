use Rattle.std.proofs.Common.{arith}
use Rattle.span_registry_layers_store.proofs.SoundSlots.{free_within, none_left, takes_free, takes_new}
use Rattle.span_registry_layers_store.proofs.slot_room.occupy.Goals as goal

pub index_mut-requires : goal.index_mut-requires
index_mut-requires c = let within =
    free_within c.args.slots.now.items c.args.free.now.items c.pop.new.self.items c.in-Some.slot c.in-Some.ensures.items c.requires.free in
    omega (arith, within)

pub returns-in-Some : goal.returns-in-Some
returns-in-Some c = takes_free c.args.slots.now.items c.args.free.now c.pop.new.self c.in-Some.slot c.args.kin c.args.metadata
    c.args.passed c.index_mut.result.now c.take.new.self c.in-Some.ensures.items c.in-Some.ensures.capacity c.requires.free
    c.requires.apart c.requires.fits c.index_mut.ensures.value c.take.ensures

pub returns-in-None : goal.returns-in-None
returns-in-None c =
    let none_before = c.in-None.ensures.cases.0 in
    let none_after = c.in-None.ensures.cases.1 in
    let room = c.requires.room (none_left c.args.free.now.items (omega (arith, none_before))) in
    takes_new c.args.slots.now.items c.push_reserved.new.self.items c.args.free.now c.pop.new.self c.len-slot.result c.args.kin
    c.args.metadata c.args.passed c.new.result
    (omega (arith, none_before)) (omega (arith, none_after)) c.in-None.ensures.capacity room.1
    (let n = c.len-slot.ensures in omega (arith, n)) c.new.ensures c.push_reserved.ensures.items
