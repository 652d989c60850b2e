-- The ids of a scope, and what they say of it.
use Rattle.std.specs.Prelude.{◌≡◌, ◌<◌, ℕ, List, [], Bool, map, reverse, Option, Some, None, IfSome, is_some}
use Rattle.tracing_core_fields.specs.declared.requests.arguments.parent.Parent.{Parent}
use Rattle.span_registry_layers_store.specs.References.{PlainRef, refs_of}
use Rattle.span_registry_layers_store.specs.Registries.{PlainSpan, kin_in}
use Rattle.span_registry_layers_store.specs.Spans.{line_of}
use Rattle.span_registry_layers_store.specs.Views.{seen}
use Rattle.span_registry_layers_layers.specs.Contexts.{event_span}
use Rattle.span_registry_layers_layers.specs.FilterViews.{View}
use Rattle.event_formatter.specs.formats.Scopes.{loose_leaf, loose_scope, only_if, refs_from, shown_at, strict_scope}

abbrev pub id_of : PlainSpan → ℕ
id_of s = s.kin.id

abbrev pub id_of_ref : PlainRef → ℕ
id_of_ref r = r.span.kin.id

-- the span, where there is one, has a number other than 0
abbrev pub HasNumber : Option PlainSpan → Type 0
HasNumber f = IfSome f (λ s. 0 < s.kin.id)

-- a span that is the one which is open and seen under its id
abbrev pub IsSeen : PlainRef → Type 0
IsSeen r = seen r.registry r.mask r.span.kin.id ≡ Some r.span

-- the ids of a span and its ancestors that are seen, the nearest first
abbrev pub ids_up : PlainRef → List ℕ
ids_up r = map id_of_ref (refs_of r.registry r.mask (line_of kin_in r.registry.spans r.span.kin.id))

-- the same of a span, where there is one
abbrev pub ids_to : Option PlainRef → List ℕ
ids_to None = []
ids_to (Some r) = ids_up r

-- the ids of the loose scope, from the root on
abbrev pub loose_ids : View → Parent → List ℕ
loose_ids v parent = reverse (map id_of_ref (refs_from v (loose_leaf v parent)))

-- the ids are those of the loose scope, and whether the event stands in a span is told
abbrev pub FillsScope : View → Parent → List ℕ → Bool → Type 0
FillsScope v parent ids stands_in = (ids ≡ loose_ids v parent) × (stands_in ≡ is_some (event_span v parent))

-- the ids show the loose scope, and the strict scope is the same or none
abbrev pub ShowsScope : View → Parent → List ℕ → Bool → Type 0
ShowsScope v parent ids stands_in =
    (key : ℕ) → (map (shown_at v key) ids ≡ loose_scope v key parent)
    × (only_if stands_in (map (shown_at v key) ids) ≡ strict_scope v key parent)
