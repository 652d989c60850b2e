-- A copy of a registry says all of it but slots.
use Rattle.std.proofs.Common.{◌≡◌, List, [], ◌∷◌, map, refl, ap, sym, ◌∙◌}
use Rattle.span_registry_layers_store.specs.Copies.{CopyOf, PlainRow, plain_row, row_of, row_span, table_registry}
use Rattle.span_registry_layers_store.specs.Registries.{PlainSpan, RegistryValue}
use Rattle.span_registry_layers_store.specs.SlotIndependence.{bare, bare_span}
use Rattle.span_registry_layers_store.specs.declared.table.RegistryTable.{RegistryTable}
use Rattle.span_registry_layers_store.specs.declared.table.SpanRow.{SpanRow}

-- the span of a row, without slots
abbrev span_of : PlainRow → PlainSpan
span_of r = record { kin = r.kin; metadata = r.metadata; passed = r.passed; slots = [] }

rows_said : (rows : List SpanRow) → map row_span rows ≡ map span_of (map plain_row rows)
rows_said [] = refl
rows_said (r ∷ rows) = ap (λ ss. row_span r ∷ ss) (rows_said rows)

spans_said : (ss : List PlainSpan) → map span_of (map row_of ss) ≡ map bare_span ss
spans_said [] = refl
spans_said (s ∷ ss) = ap (λ rest. bare_span s ∷ rest) (spans_said ss)

pub copy_says : (x : RegistryValue) (copy : RegistryTable) → CopyOf x copy → table_registry copy ≡ bare x
copy_says x copy c =
    let spans : map row_span copy.spans.items ≡ map bare_span x.spans =
    rows_said copy.spans.items ∙ ap (map span_of) c.spans ∙ spans_said x.spans in
    λ i. record { lanes = c.lanes i; spans = spans i; next_id = c.next_id i; filters = c.filters i }
