-- The spans that a line shows, as an output sees them.
use Rattle.std.specs.Prelude.{ℕ, Bool, true, false, List, [], map, reverse, Option, Some, None}
use Rattle.tracing_core_fields.specs.declared.requests.arguments.parent.Parent.{Parent}
use Rattle.span_registry_layers_store.specs.References.{PlainRef}
use Rattle.span_registry_layers_store.specs.Registries.{PlainSpan}
use Rattle.span_registry_layers_store.specs.Views.{first_of}
use Rattle.span_registry_layers_layers.specs.Contexts.{event_span, lane_span, scope_in, span_in}
use Rattle.span_registry_layers_layers.specs.FilterViews.{View}
use Rattle.event_formatter_lines.specs.Shown.{PlainShown, nothing_shown}
use Rattle.event_formatter_lines.specs.slots.FieldsAndTimings.{kept_at, text_of}

-- a span, with the text that the output keeps with it
abbrev pub shown_span : ℕ → PlainSpan → PlainShown
shown_span key s =
    record { name = s.metadata.name; target = s.metadata.target; text = text_of (kept_at key s.slots) }

abbrev pub shown_or_nothing : ℕ → Option PlainSpan → PlainShown
shown_or_nothing key None = nothing_shown
shown_or_nothing key (Some s) = shown_span key s

-- the span of an id, where it is open and seen
abbrev pub shown_at : View → ℕ → ℕ → PlainShown
shown_at v key id = shown_or_nothing key (span_in v id)

-- a span and its ancestors, the nearest first, without those that aren't seen
abbrev pub refs_from : View → Option PlainSpan → List PlainRef
refs_from v None = []
refs_from v (Some s) = scope_in v s

-- the same from the root on, as a line shows them
abbrev pub shown_scope : View → ℕ → Option PlainSpan → List PlainShown
shown_scope v key leaf = reverse (map (λ (r : PlainRef). shown_span key r.span) (refs_from v leaf))

abbrev pub only_if : {A : Type 0} → Bool → List A → List A
only_if true xs = xs
only_if false xs = []

-- where the loose scope of an event begins: the span that it stands in, else the lane's
abbrev pub loose_leaf : View → Parent → Option PlainSpan
loose_leaf v parent = first_of (event_span v parent) (lane_span v)

-- the spans that an event stands in, which are none for a root and for a parent that isn't seen
abbrev pub strict_scope : View → ℕ → Parent → List PlainShown
strict_scope v key parent = shown_scope v key (event_span v parent)

-- the same, or else those that the lane is in
abbrev pub loose_scope : View → ℕ → Parent → List PlainShown
loose_scope v key parent = shown_scope v key (loose_leaf v parent)
