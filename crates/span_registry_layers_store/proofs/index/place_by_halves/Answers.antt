use Rattle.std.proofs.Common.{rules}
use Rattle.std.proofs.lemmas.List.Sorted.{answers_always}
use Rattle.span_registry_layers_store.specs.declared.index.Entry.{Entry}
use Rattle.span_registry_layers_store.proofs.IndexOrder.{searched_none, searched_there}
use Rattle.span_registry_layers_store.proofs.index.place_by_halves.Goals as goal

-- the closure gives an entry's id
pub returns-in-Ok : goal.returns-in-Ok
returns-in-Ok c =
    let by_id = c.in-Ok.ensures.position (λ (e : Entry). e.id) (answers_always _ _ _ (λ f a r g called. search rules)) in
    searched_there c.args.index.now c.args.id c.in-Ok.place c.requires c.in-Ok.ensures.bound (rw (c.into_u64.ensures.value) at by_id)

pub returns-in-Err : goal.returns-in-Err
returns-in-Err c =
    let by_id = c.in-Err.ensures.position (λ (e : Entry). e.id) (answers_always _ _ _ (λ f a r g called. search rules)) in
    searched_none c.args.index.now c.args.id c.in-Err.field-0 c.requires (rw (c.into_u64.ensures.value) at by_id)
