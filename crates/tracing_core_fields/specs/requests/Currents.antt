-- What is told of the current span.
use Rattle.std.specs.Prelude.{ℕ, Bool, true, false, Option, Some, None}
use Rattle.std.specs.Borrow.{Bor}
use Rattle.std.specs.Option.{option_and, option_copied, option_map}
use Rattle.tracing_core_fields.specs.Metadata.{plain_metadata}
use Rattle.tracing_core_fields.specs.PlainMetadata.{PlainMetadata}
use Rattle.tracing_core_fields.specs.declared.metadata.Metadata.{Metadata}
use Rattle.tracing_core_fields.specs.declared.requests.arguments.current.Current.{Current}

-- which span is current, that none is, or nothing
pub data PlainCurrent : Type 0 where
  Inside : ℕ → PlainMetadata → PlainCurrent
  Outside : PlainCurrent
  Untold : PlainCurrent

-- a span is told where both its id and its metadata are
abbrev pub plain_told : Option ℕ → Option PlainMetadata → Bool → PlainCurrent
plain_told (Some id) (Some metadata) outside = Inside id metadata
plain_told None metadata true = Outside
plain_told None metadata false = Untold
plain_told (Some id) None true = Outside
plain_told (Some id) None false = Untold

abbrev pub plain_current : Current → PlainCurrent
plain_current current =
    plain_told current.id (option_map (λ lent. plain_metadata lent.now) current.metadata) current.outside

abbrev pub is_told : PlainCurrent → Bool
is_told (Inside id metadata) = true
is_told Outside = true
is_told Untold = false

-- the id and the metadata of the current span, where there is one
abbrev pub span_told : PlainCurrent → Option (ℕ × PlainMetadata)
span_told (Inside id metadata) = Some (id, metadata)
span_told Outside = None
span_told Untold = None

abbrev pub id_told : PlainCurrent → Option ℕ
id_told told = option_map (λ span. span.0) (span_told told)

abbrev pub metadata_told : PlainCurrent → Option PlainMetadata
metadata_told told = option_map (λ span. span.1) (span_told told)

abbrev pub plain_span : ℕ × Bor Metadata → ℕ × PlainMetadata
plain_span span = (span.0, plain_metadata span.1.now)

-- the metadata of the current span, with its borrowed parts
abbrev pub current_metadata : Current → Option Metadata
current_metadata current = option_and current.id (option_copied current.metadata)
