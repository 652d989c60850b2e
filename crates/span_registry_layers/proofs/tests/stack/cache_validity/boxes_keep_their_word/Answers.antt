use Rattle.std.proofs.Common.{refl, subst, sym}
use denote.Param.Object.{read_made}
use Rattle.span_registry_layers.proofs.tests.stack.cache_validity.boxes_keep_their_word.OwnLists.{own-1, at-1-1}
use Rattle.span_registry_layers.proofs.tests.stack.cache_validity.boxes_keep_their_word.Goals as goal

pub heard_by_box-requires : goal.heard_by_box-requires
heard_by_box-requires g c =
    let boxed = c.into_dyn_box.result in
    let same = read_made own-1 (own-1.entry at-1-1) at-1-1 refl (Type 0) (λ j w. j.1.honest w) boxed.vtable boxed.value
    c.in_ok-new.field-0.value c.into_dyn_box.ensures.1 in
    subst (λ (P : Type 0). P) (sym same) tt
