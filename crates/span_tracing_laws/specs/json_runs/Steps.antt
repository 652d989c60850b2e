-- Steps whose numbers are in the ranges of their types, and whose events can be formatted.
use Rattle.std.specs.Prelude.{ℕ, List, IsSome}
use Rattle.std.specs.List.{AllByRecursion}
use Rattle.tracing_core_fields.specs.PlainValue.{PlainValue, debug_of}
use Rattle.event_formatter_text.specs.JsonLaws.{IsInRange}
use Rattle.event_formatter_text.specs.JsonTexts.{json_value}
use Rattle.span_tracing_skeleton.specs.PlainData.{AnyStep, PlainStep}
use Rattle.span_tracing_skeleton.specs.Skeleton.{Skeleton}
use Rattle.span_tracing_skeleton.specs.declared.setting.Setting.{Setting}
use Rattle.span_tracing_laws.specs.machines.Steps.{AnyBringsBy, BringsBy, IsSkeletonOf}
use Rattle.span_tracing_laws.specs.json.Objects.{IsPlaceInRange}

-- the numbers of values are in the ranges of their types
abbrev pub ValuesInRange : List (ℕ × PlainValue) → Type 0
ValuesInRange values = AllByRecursion (λ v. IsInRange (debug_of v.1)) values

-- each value can be formatted
abbrev pub ValuesAreFormatted : List (ℕ × PlainValue) → Type 0
ValuesAreFormatted values = AllByRecursion (λ v. IsSome (json_value (debug_of v.1))) values

-- any setting
abbrev pub AnySetting : Setting → Type 0
AnySetting setting = Unit {0}

-- this holds of the values of a step that is an event, and that of the values of one that makes a span or records
abbrev pub Brings : (List (ℕ × PlainValue) → Type 0) → (List (ℕ × PlainValue) → Type 0) → PlainStep → Type 0
Brings of_event of_span step = BringsBy (λ e. of_event e.values) (λ n. of_span n.values) of_span AnySetting step

abbrev pub BringsAny : (List (ℕ × PlainValue) → Type 0) → (List (ℕ × PlainValue) → Type 0) → AnyStep → Type 0
BringsAny of_event of_span step = AnyBringsBy (λ e. of_event e.values) (λ n. of_span n.values) of_span AnySetting step

-- any values
abbrev pub AnyValues : List (ℕ × PlainValue) → Type 0
AnyValues values = Unit {0}

-- the numbers of the values that steps bring are in range
abbrev pub StepsInRange : List AnyStep → Type 0
StepsInRange steps = AllByRecursion (BringsAny ValuesInRange ValuesInRange) steps

-- the values of each event can be formatted
abbrev pub EventsAreFormatted : List AnyStep → Type 0
EventsAreFormatted steps = AllByRecursion (BringsAny ValuesAreFormatted AnyValues) steps

-- the numbers of the lines in the source of callsites and of the stacks' open spans are in range
abbrev pub IsSkeletonInRange : Skeleton → Type 0
IsSkeletonInRange s = IsSkeletonOf (λ ms. AllByRecursion IsPlaceInRange ms) IsPlaceInRange s
