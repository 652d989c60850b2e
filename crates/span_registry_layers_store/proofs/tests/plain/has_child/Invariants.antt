use Rattle.std.proofs.Common.{◌≡◌, drop}
use Rattle.span_registry_layers_store.specs.Spans.{has_child}
use Rattle.span_registry_layers_store.specs.Places.{kin_of}
use Rattle.span_registry_layers_store.proofs.tests.plain.has_child.Given as goal

abbrev pub invariant-loop-span : goal.invariant-loop-span
invariant-loop-span l = has_child kin_of (drop l.span-index l.spans) l.id ≡ has_child kin_of l.spans l.id
