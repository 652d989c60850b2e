use Rattle.std.proofs.Common.{◌≡◌, ◌++◌, map}
use Rattle.span_registry_layers_store.specs.References.{plain_ref, scope_left}
use Rattle.event_formatter.specs.formats.ScopeIds.{id_of_ref, ids_up}
use Rattle.event_formatter.proofs.formats.scope.fill_from.Given as goal

abbrev pub invariant-loop-span : goal.invariant-loop-span
invariant-loop-span l =
    l.ids.items ++ map id_of_ref (scope_left l.span-iterator) ≡ ids_up (plain_ref l.leaf)
