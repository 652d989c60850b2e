use Rattle.std.proofs.Common.{◌≤◌, List, refl, rules, sym, length, arith, inl, inr}
use Rattle.std.proofs.lemmas.Bool.{cases_lt, false≢true}
use Rattle.std.proofs.lemmas.Option.{slice_get_past, slice_get_read}
use Rattle.span_registry_layers_store.specs.Slots.{PlainPlace}
use Rattle.span_registry_layers_store.specs.Views.{mask_of}
use Rattle.span_registry_layers_store.proofs.SpanLoans.{none_lent, some_lent}
use Rattle.span_registry_layers_store.proofs.spans.Spans.extensions_mut.Goals as goal

pub invariant_of-self-lent : goal.invariant_of-self-lent
invariant_of-self-lent c = λ w.
    let xs = c.self.inside.index.slots.items in
    let here = slice_get_read xs (length xs) c.slot_to_lend-slot.result c.in-Some.slot.now refl
    (let below = c.in-Some.ensures.variant.0 refl in omega (arith, below)) c.in-Some.ensures.value in
    c.slot_to_lend-slot.ensures.sound w c.in-Some.slot.now here c.self.inside.free c.self.invariant

pub returns-in-None : goal.returns-in-None
returns-in-None c =
    let xs = c.self.inside.index.slots.items in
    let k = c.slot_to_lend-slot.result in
    let past : length xs ≤ k = elim (cases_lt k (length xs)) [
      | inl below ↦ absurd (false≢true (c.in-None.ensures.variant.1 (omega (arith, below))))
      | inr past ↦ past
    ] in
    let none = none_lent xs c.self.inside.index.entries.items (mask_of c.args.filter) c.args.id k c.slot_to_lend-slot.ensures
    (slice_get_past xs k past) in
    rw (← c.self.view_is) (refl, record { lent = none; ends = tt })

pub returns-in-Some : goal.returns-in-Some
returns-in-Some c =
    let xs = c.self.inside.index.slots.items in
    let k = c.slot_to_lend-slot.result in
    let p = c.slot_to_lend-slot.ensures in
    let s = c.in-Some.slot.now in
    let here = slice_get_read xs (length xs) k s refl (let below = c.in-Some.ensures.variant.0 refl in omega (arith, below))
    c.in-Some.ensures.value in
    let some = some_lent xs c.self.inside.index.entries.items (mask_of c.args.filter) c.args.id k s p here in
    let ends = λ (w : List PlainPlace). sym (p.put w s here) in
    rw (← c.self.view_is) (search (rules, ends), record { lent = some; ends = tt })
