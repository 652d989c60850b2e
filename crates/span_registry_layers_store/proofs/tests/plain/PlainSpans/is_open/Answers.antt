use Rattle.std.proofs.Common.{◌∙◌}
use Rattle.span_registry_layers_store.proofs.IdOrder.{rising_slice}
use Rattle.span_registry_layers_store.proofs.SeenSpans.{open_told}
use Rattle.span_registry_layers_store.proofs.tests.plain.PlainSpans.is_open.Goals as goal

pub place_of-requires : goal.place_of-requires
place_of-requires c = rising_slice c.as_slice.result.now c.self.inside.spans.items c.as_slice.ensures.value c.self.invariant

pub returns : goal.returns
returns c = c.is_some.ensures ∙
    rw (← c.self.view_is) (open_told c.place_of.result c.as_slice.result.now c.self.inside.spans.items c.args.id c.as_slice.ensures.value
    c.place_of.ensures)
