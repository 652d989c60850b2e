use Rattle.std.proofs.Common.{rules}
use Rattle.std.proofs.lemmas.List.Sorted.{answers_always}
use Rattle.span_registry_layers_store.specs.declared.span.Span.{Span}
use Rattle.span_registry_layers_store.proofs.IdOrder.{searched_none, searched_there}
use Rattle.span_registry_layers_store.proofs.tests.plain.place_by_halves.Goals as goal

-- the closure gives a span's id
pub returns-in-Ok : goal.returns-in-Ok
returns-in-Ok c =
    let by_id = c.in-Ok.ensures.position (λ (s : Span). s.kin.id) (answers_always _ _ _ (λ f a r g called. search rules)) in
    searched_there c.args.spans.now c.args.id c.in-Ok.place c.requires c.in-Ok.ensures.bound (rw (c.into_u64.ensures.value) at by_id)

pub returns-in-Err : goal.returns-in-Err
returns-in-Err c =
    let by_id = c.in-Err.ensures.position (λ (s : Span). s.kin.id) (answers_always _ _ _ (λ f a r g called. search rules)) in
    searched_none c.args.spans.now c.args.id c.in-Err.field-0 c.requires (rw (c.into_u64.ensures.value) at by_id)
