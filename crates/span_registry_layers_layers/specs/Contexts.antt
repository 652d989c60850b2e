-- What a context shows.
use Rattle.std.specs.Prelude.{ℕ, List, Option, Some, None}
use Rattle.tracing_core_fields.specs.declared.requests.current_span.CurrentSpan.{CurrentSpan}
use Rattle.tracing_core_fields.specs.declared.requests.current_span.CurrentSpan.TheVariants.{Inside, Outside}
use Rattle.tracing_core_fields.specs.declared.requests.arguments.parent.Parent.{Parent}
use Rattle.tracing_core_fields.specs.declared.requests.arguments.parent.Parent.TheVariants.{Root, Current, Explicit}
use Rattle.tracing_core_fields.specs.PlainMetadata.{PlainMetadata}
use Rattle.span_registry_layers_store.specs.References.{PlainRef, ref_of, refs_of}
use Rattle.span_registry_layers_store.specs.Registries.{PlainSpan, kin_in}
use Rattle.span_registry_layers_store.specs.Spans.{line_of}
use Rattle.span_registry_layers_store.specs.Views.{current_under, seen}
use Rattle.span_registry_layers_layers.specs.FilterViews.{View}

-- the span that the lane is in, of those that are seen
abbrev pub lane_span : View → Option PlainSpan
lane_span v = current_under v.registry v.mask v.at.lane

-- the span of an id, where it is open and seen
abbrev pub span_in : View → ℕ → Option PlainSpan
span_in v id = seen v.registry v.mask id

-- the span that an event stands in: none for a root, the lane's for a contextual one, and the one that is named where it is seen
abbrev pub event_span : View → Parent → Option PlainSpan
event_span v Root = None
event_span v Current = lane_span v
event_span v (Explicit id) = span_in v id

-- a span as it is seen there
abbrev pub ref_in : View → PlainSpan → PlainRef
ref_in v s = ref_of v.registry v.mask s

-- the span and its ancestors, the nearest first, without those that aren't seen
abbrev pub scope_in : View → PlainSpan → List PlainRef
scope_in v s = refs_of v.registry v.mask (line_of kin_in v.registry.spans s.kin.id)

abbrev pub metadata_in : PlainSpan → PlainMetadata
metadata_in s = s.metadata

abbrev pub current_told : Option PlainSpan → CurrentSpan
current_told None = Outside
current_told (Some s) = Inside s.kin.id
