-- What an output keeps with a span, read out of the span's slots.
use Rattle.std.specs.Prelude.{◌≡◌, ℕ, ◌+◌, ◌==◌, ◌||◌, List, [], Bool, true, false, if◌then◌else◌, unwrap_or}
use Rattle.std.specs.Prelude.{Option, Some, None}
use Rattle.std.specs.Option.{option_map}
use Rattle.span_registry_layers_store.specs.Slots.{PlainPlace, PlainSlot, Number, Text, Times, Words, slot_at}
use Rattle.span_registry_layers_store.specs.declared.slot.Tag.TheVariants as tag
use Rattle.span_registry_layers_store.specs.declared.slot.Timings.{Timings}
use Rattle.event_formatter_text.specs.SpanFields.{PlainFields}
use Rattle.event_formatter_text.specs.declared.settings.Settings.{Settings}
use Rattle.event_formatter_lines.specs.declared.slots.first_text.FirstText.{FirstText}
use Rattle.event_formatter_lines.specs.declared.slots.first_text.FirstText.TheVariants as first

-- what is kept of a span's fields, and how long the span was busy and idle
pub record PlainKept : Type 0 where
  pub fields : Option PlainFields
  pub timings : Option Timings

abbrev pub nothing_kept : PlainKept
nothing_kept = record { fields = None; timings = None }

-- how a text is written as a number: 1 with styles, and 2 more where it is sanitized
abbrev pub number_of : Settings → ℕ
number_of s = (if s.styles then 1 else 0) + (if s.sanitizes then 2 else 0)

abbrev pub settings_of : ℕ → Settings
settings_of n = record { styles = (n == 1) || (n == 3); sanitizes = (n == 2) || (n == 3) }

-- without a number it has no styles and is sanitized
abbrev pub settings_by : Option PlainSlot → Settings
settings_by None = settings_of 2
settings_by (Some (Number n)) = settings_of n
settings_by (Some (Text text)) = settings_of 2
settings_by (Some (Times timings)) = settings_of 2
settings_by (Some (Words words)) = settings_of 2

abbrev pub text_by : Option PlainSlot → Option (List ℕ)
text_by None = None
text_by (Some (Text text)) = Some text
text_by (Some (Times timings)) = None
text_by (Some (Number n)) = None
text_by (Some (Words words)) = None

abbrev pub words_by : Option PlainSlot → List (List ℕ)
words_by None = []
words_by (Some (Words words)) = words
words_by (Some (Text text)) = []
words_by (Some (Times timings)) = []
words_by (Some (Number n)) = []

abbrev pub timings_by : Option PlainSlot → Option Timings
timings_by None = None
timings_by (Some (Times timings)) = Some timings
timings_by (Some (Text text)) = None
timings_by (Some (Number n)) = None
timings_by (Some (Words words)) = None

-- fields are kept exactly where there is a text of them
abbrev pub fields_by : Option PlainSlot → Option PlainSlot → Option PlainSlot → Option PlainFields
fields_by text words number =
    option_map (λ bytes. record { text = bytes; words = words_by words; settings = settings_by number }) (text_by text)

-- what the output of a key keeps in these slots
abbrev pub kept_at : ℕ → List PlainPlace → PlainKept
kept_at key places =
    record {
      fields = fields_by (slot_at places key tag.Text) (slot_at places key tag.Words) (slot_at places key tag.Number);
      timings = timings_by (slot_at places key tag.Timings);
    }

-- the text as a line shows it: the empty one where there is none
abbrev pub text_of : PlainKept → List ℕ
text_of kept = unwrap_or (option_map (λ (fields : PlainFields). fields.text) kept.fields) []

-- the fields once more values were added; values that can't be formatted change nothing
abbrev pub fields_after : (PlainFields → Option PlainFields) → PlainFields → PlainFields
fields_after added fields = unwrap_or (added fields) fields

-- more values were added to the fields, or there was no memory
abbrev pub AddsMore : (PlainFields → Option PlainFields) → PlainFields → Bool → PlainFields → Type 0
AddsMore added before true after = after ≡ fields_after added before
AddsMore added before false after = after ≡ before

-- these fields and timings alone are kept, or nothing
abbrev pub kept_alone : Bool → PlainFields → Option Timings → PlainKept
kept_alone true fields timings = record nothing_kept { fields = Some fields; timings = timings }
kept_alone false fields timings = nothing_kept

abbrev pub is_whole : FirstText → Bool
is_whole first.Whole = true
is_whole first.Started = false
is_whole first.Nothing = false

-- what is kept of a new span: its first list and its timings; where there is no memory for the list, what spans start
-- with in its place; nothing, where there is none for that either
abbrev pub kept_first : FirstText → (PlainFields → Option PlainFields) → PlainFields → Option Timings → PlainKept
kept_first first.Whole added started timings =
    record nothing_kept { fields = Some (fields_after added started); timings = timings }
kept_first first.Started added started timings = record nothing_kept { fields = Some started; timings = timings }
kept_first first.Nothing added started timings = nothing_kept

-- what is kept once values were recorded: they are added to the fields, or to what spans start with where none are
-- kept; without memory all stays
abbrev pub kept_more : Bool → (PlainFields → Option PlainFields) → PlainFields → PlainKept → PlainKept
kept_more true added started kept =
    record kept { fields = Some (fields_after added (unwrap_or kept.fields started)) }
kept_more false added started kept = kept
