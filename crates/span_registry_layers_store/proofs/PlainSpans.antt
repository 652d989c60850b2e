-- The same words of spans where they lie in memory, and of what they are.
use Rattle.std.proofs.Common.{◌≡◌, ℕ, List, map}
use Rattle.std.specs.Option.{option_map}
use Rattle.span_registry_layers_store.specs.Places.{kin_of}
use Rattle.span_registry_layers_store.specs.Registries.{PlainSpan, kin_in, plain_span}
use Rattle.span_registry_layers_store.specs.Spans.{changed, closed_of, found, handles_of, is_open, open_of}
use Rattle.span_registry_layers_store.specs.declared.span.Span.{Span}
use Rattle.span_registry_layers_store.proofs.ParentLinks.{changed_carried, closed_carried, found_carried, handles_carried, left_carried}
use Rattle.span_registry_layers_store.proofs.ParentLinks.{open_carried}

pub open_mapped : (xs : List Span) (id : ℕ) → is_open kin_in (map plain_span xs) id ≡ is_open kin_of xs id
open_mapped = open_carried kin_in plain_span

pub found_mapped : (xs : List Span) (id : ℕ) → found kin_in (map plain_span xs) id ≡ option_map plain_span (found kin_of xs id)
found_mapped = found_carried kin_in plain_span

pub handles_mapped : (xs : List Span) (id : ℕ) → handles_of kin_in (map plain_span xs) id ≡ handles_of kin_of xs id
handles_mapped = handles_carried kin_in plain_span

pub left_mapped : (lanes : List (List ℕ)) (xs : List Span) →
    open_of kin_in lanes (map plain_span xs) ≡ map plain_span (open_of kin_of lanes xs)
left_mapped = left_carried kin_in plain_span

pub closed_mapped : (lanes : List (List ℕ)) (xs : List Span) →
    closed_of kin_in lanes (map plain_span xs) ≡ map plain_span (closed_of kin_of lanes xs)
closed_mapped = closed_carried kin_in plain_span

pub changed_mapped : (f : Span → Span) (g : PlainSpan → PlainSpan) → ((x : Span) → plain_span (f x) ≡ g (plain_span x)) →
    (xs : List Span) (id : ℕ) → changed kin_in g (map plain_span xs) id ≡ map plain_span (changed kin_of f xs id)
changed_mapped = changed_carried kin_in plain_span
