use Rattle.std.proofs.Common.{◌∙◌, ◌++◌, ◌∷◌, [], List, Vec, ap, sym, subst, arith}
use Rattle.std.specs.Global.{Global}
use Rattle.span_registry_layers_store.specs.Registries.{PlainSpan}
use Rattle.span_registry_layers_store.specs.SpanSlots.{AreSound, entry_at, new_span, spans_in}
use Rattle.span_registry_layers_store.specs.declared.index.Entry.{Entry}
use Rattle.span_registry_layers_store.proofs.SoundSlots.{made_sound, made_view, room_counts, room_indexed}
use Rattle.span_registry_layers_store.proofs.spans.Spans.push.Goals as goal

pub add_child-requires-clause-few : goal.add_child-requires-clause-few
add_child-requires-clause-few c =
    let xs = c.self.inside.index.slots.items in
    let es = c.self.inside.index.entries.items in
    room_counts xs c.as_slice.result.now c.make_room.new.slots c.self.inside.free c.make_room.new.free es c.tidy.new.index.items
    c.reserve.new.self.items c.self.invariant c.as_slice.ensures.value c.tidy.ensures.same c.reserve.ensures.items c.tidy.ensures.rise
    c.tidy.ensures.indexed c.make_room.ensures.slots c.make_room.ensures.free c.make_room.ensures.fits
    (let n = c.len.ensures in omega (arith, n))

pub add_child-requires-clause-indexed : goal.add_child-requires-clause-indexed
add_child-requires-clause-indexed c =
    let xs = c.self.inside.index.slots.items in
    let es = c.self.inside.index.entries.items in
    room_indexed xs c.as_slice.result.now c.make_room.new.slots c.self.inside.free c.make_room.new.free es c.tidy.new.index.items
    c.reserve.new.self.items c.self.invariant c.as_slice.ensures.value c.tidy.ensures.same c.reserve.ensures.items c.tidy.ensures.rise
    c.tidy.ensures.indexed c.make_room.ensures.slots c.make_room.ensures.free c.make_room.ensures.fits

pub invariant_of-self-2 : goal.invariant_of-self-2
invariant_of-self-2 c =
    let xs = c.self.inside.index.slots.items in
    let es = c.self.inside.index.entries.items in
    let entries = ap (λ (v : Vec Entry Global). v.items) c.add_child.ensures.entries in
    let now = c.push_reserved.ensures.items ∙ ap (λ (fs : List Entry). fs ++ entry_at c.args.kin.id c.occupy-slot.result ∷ []) entries in
    subst (λ (fs : List Entry). AreSound c.occupy-slot.new.slots.items c.occupy-slot.new.free fs) (sym now)
    (made_sound xs c.as_slice.result.now c.make_room.new.slots c.self.inside.free c.make_room.new.free es c.tidy.new.index.items
    c.reserve.new.self.items c.self.invariant c.as_slice.ensures.value c.tidy.ensures.same c.reserve.ensures.items c.tidy.ensures.rise
    c.tidy.ensures.indexed c.make_room.ensures.slots c.make_room.ensures.free c.make_room.ensures.fits c.tidy.ensures.last
    c.add_child.new.self.slots c.occupy-slot.new.slots.items c.occupy-slot.new.free c.args.kin c.args.metadata c.args.passed
    c.occupy-slot.result (rw (c.self.view_is) c.requires) c.add_child.ensures.counts c.occupy-slot.ensures)

pub returns-clause-ok : goal.returns-clause-ok
returns-clause-ok c =
    let xs = c.self.inside.index.slots.items in
    let es = c.self.inside.index.entries.items in
    let entries = ap (λ (v : Vec Entry Global). v.items) c.add_child.ensures.entries in
    let now = c.push_reserved.ensures.items ∙ ap (λ (fs : List Entry). fs ++ entry_at c.args.kin.id c.occupy-slot.result ∷ []) entries in
    ap (spans_in c.occupy-slot.new.slots.items) now ∙
    made_view xs c.as_slice.result.now c.make_room.new.slots c.self.inside.free c.make_room.new.free es c.tidy.new.index.items
    c.reserve.new.self.items c.self.invariant c.as_slice.ensures.value c.tidy.ensures.same c.reserve.ensures.items c.tidy.ensures.rise
    c.tidy.ensures.indexed c.make_room.ensures.slots c.make_room.ensures.free c.make_room.ensures.fits c.tidy.ensures.last
    c.add_child.new.self.slots c.occupy-slot.new.slots.items c.occupy-slot.new.free c.args.kin c.args.metadata c.args.passed
    c.occupy-slot.result (rw (c.self.view_is) c.requires) c.add_child.ensures.counts c.occupy-slot.ensures ∙
    ap (λ (ss : List PlainSpan). ss ++ new_span c.args.kin c.args.metadata c.args.passed ∷ []) c.self.view_is
