-- What is known of steps, and of a skeleton.
use Rattle.std.specs.Prelude.{ℕ, List}
use Rattle.std.specs.List.{AllByRecursion}
use Rattle.tracing_core_fields.specs.PlainMetadata.{PlainMetadata}
use Rattle.tracing_core_fields.specs.PlainValue.{PlainValue}
use Rattle.span_registry_layers_store.specs.Registries.{PlainSpan}
use Rattle.span_tracing_skeleton.specs.PlainData.{AnyStep, OfQueue, OfTrace, PlainStep, GlobalStep, EventStep, EnabledStep, SpanStep}
use Rattle.span_tracing_skeleton.specs.PlainData.{RecordStep, FollowsFromStep, Request}
use Rattle.span_tracing_skeleton.specs.PlainData.{EnterStep, ExitStep, CloneStep, CloseStep, DefaultStep, ResetStep, CloneHandleStep}
use Rattle.span_tracing_skeleton.specs.PlainData.{ReleaseStep, SetStep}
use Rattle.span_tracing_skeleton.specs.Skeleton.{HeldStack, Skeleton}
use Rattle.span_tracing_skeleton.specs.declared.setting.Setting.{Setting}

-- this holds of a step that is an event, that of one that makes a span, the third of the values of one that records, and the last of a
-- setting that is set
abbrev pub BringsBy : (Request → Type 0) → (Request → Type 0) → (List (ℕ × PlainValue) → Type 0) → (Setting → Type 0) → PlainStep → Type 0
BringsBy of_event of_span of_record of_setting (GlobalStep handle) = Unit {0}
BringsBy of_event of_span of_record of_setting (EventStep e) = of_event e
BringsBy of_event of_span of_record of_setting (EnabledStep call) = Unit {0}
BringsBy of_event of_span of_record of_setting (SpanStep n) = of_span n
BringsBy of_event of_span of_record of_setting (RecordStep r) = of_record r.values
BringsBy of_event of_span of_record of_setting (FollowsFromStep call) = Unit {0}
BringsBy of_event of_span of_record of_setting (EnterStep call) = Unit {0}
BringsBy of_event of_span of_record of_setting (ExitStep call) = Unit {0}
BringsBy of_event of_span of_record of_setting (CloneStep call) = Unit {0}
BringsBy of_event of_span of_record of_setting (CloseStep call) = Unit {0}
BringsBy of_event of_span of_record of_setting (DefaultStep call) = Unit {0}
BringsBy of_event of_span of_record of_setting (ResetStep call) = Unit {0}
BringsBy of_event of_span of_record of_setting (CloneHandleStep handle) = Unit {0}
BringsBy of_event of_span of_record of_setting (ReleaseStep handle) = Unit {0}
BringsBy of_event of_span of_record of_setting (SetStep call) = of_setting call.setting

-- nothing is brought by a call on a queue
abbrev pub AnyBringsBy : (Request → Type 0) → (Request → Type 0) → (List (ℕ × PlainValue) → Type 0) → (Setting → Type 0) → AnyStep → Type 0
AnyBringsBy of_event of_span of_record of_setting (OfTrace step) = BringsBy of_event of_span of_record of_setting step
AnyBringsBy of_event of_span of_record of_setting (OfQueue ask) = Unit {0}

-- the callsites together are such, and so is the metadata of each of the stacks' open spans
pub record IsSkeletonOf (callsites_are : List PlainMetadata → Type 0) (metadata_is : PlainMetadata → Type 0) (s : Skeleton) : Type 0 where
  pub callsites : callsites_are s.callsites
  pub spans : AllByRecursion (λ (k : HeldStack). AllByRecursion (λ (y : PlainSpan). metadata_is y.metadata) k.registry.spans) s.stacks
