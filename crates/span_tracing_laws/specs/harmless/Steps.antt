-- Steps in which nothing that stands as it is steers a terminal.
use Rattle.std.specs.Prelude.{◌≡◌, ℕ, false, List, [], IfSome, slice_index_or}
use Rattle.std.specs.List.{AllByRecursion}
use Rattle.tracing_core_fields.specs.PlainMetadata.{PlainMetadata}
use Rattle.tracing_core_fields.specs.PlainValue.{PlainValue, debug_of}
use Rattle.event_formatter_text.specs.HarmlessTexts.{IsTame}
use Rattle.span_tracing_skeleton.specs.Looking.{named}
use Rattle.span_tracing_skeleton.specs.PlainData.{AnyStep, Request}
use Rattle.span_tracing_skeleton.specs.Skeleton.{Skeleton}
use Rattle.span_tracing_skeleton.specs.declared.setting.Setting.{Setting}
use Rattle.span_tracing_skeleton.specs.declared.setting.Setting.TheVariants.{Ansi, SpanEvents}
use Rattle.span_tracing_steps.specs.StackRequests.{own_values}
use Rattle.span_tracing_laws.specs.harmless.Lines.{IsTameMetadata}
use Rattle.span_tracing_laws.specs.machines.Steps.{AnyBringsBy, IsSkeletonOf}

-- The values of a callsite's own fields are tame: no debug value but a message steers a terminal, and numbers are in the ranges of their
-- types.
abbrev pub AreTameFor : PlainMetadata → List (ℕ × PlainValue) → Type 0
AreTameFor m values =
    AllByRecursion (λ v. IsTame (slice_index_or m.field_names v.0 []) (debug_of v.1)) (own_values m values).entries

-- so are those of an event or a new span, where its callsite is known
abbrev pub IsTameRequest : List PlainMetadata → Request → Type 0
IsTameRequest callsites r = IfSome (named callsites r.callsite) (λ m. AreTameFor m r.values)

-- and those that are recorded, whatever the span's callsite is
abbrev pub AreTameForEach : List PlainMetadata → List (ℕ × PlainValue) → Type 0
AreTameForEach callsites values = AllByRecursion (λ m. AreTameFor m values) callsites

-- a setting doesn't turn styles on
abbrev pub LeavesStylesOff : Setting → Type 0
LeavesStylesOff (Ansi on) = on ≡ false
LeavesStylesOff (SpanEvents moments) = Unit {0}

-- all values that steps bring to these callsites are tame, and no step turns styles on
abbrev pub AreTameSteps : List PlainMetadata → List AnyStep → Type 0
AreTameSteps callsites steps =
    AllByRecursion (AnyBringsBy (IsTameRequest callsites) (IsTameRequest callsites) (AreTameForEach callsites) LeavesStylesOff) steps

-- no name, target or file of callsites and of the stacks' open spans steers a terminal
abbrev pub IsTameSkeleton : Skeleton → Type 0
IsTameSkeleton s = IsSkeletonOf (λ ms. AllByRecursion IsTameMetadata ms) IsTameMetadata s
