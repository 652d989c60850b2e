use Rattle.std.proofs.Common.{ap, sym, ◌∙◌}
use Rattle.span_registry_layers_store.specs.Places.{kin_of}
use Rattle.span_registry_layers_store.specs.Spans.{is_open}
use Rattle.span_registry_layers_store.proofs.IdOrder.{rising_slice}
use Rattle.span_registry_layers_store.proofs.SeenSpans.{found_at, none_found}
use Rattle.span_registry_layers_store.proofs.tests.plain.PlainSpans.find.Goals as goal

pub place_of-requires : goal.place_of-requires
place_of-requires c = rising_slice c.as_slice.result.now c.self.inside.spans.items c.as_slice.ensures.value c.self.invariant

pub returns-in-None : goal.returns-in-None
returns-in-None c = rw (← c.self.view_is)
    (sym (none_found c.self.inside.spans.items c.args.id (ap (λ xs. is_open kin_of xs c.args.id) (sym c.as_slice.ensures.value) ∙
    c.in-None.ensures)))

pub returns-in-Some : goal.returns-in-Some
returns-in-Some c = rw (← c.self.view_is) (found_at c.as_slice.result.now c.self.inside.spans.items c.args.id c.in-Some.place
    c.index.result.now c.as_slice.ensures.value c.in-Some.ensures c.index.ensures)
