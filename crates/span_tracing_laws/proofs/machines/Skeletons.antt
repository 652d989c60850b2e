-- Where callsites and open spans have such metadata, they have after each step.
use Rattle.std.proofs.Common.{◌==◌, ℕ, Bool, true, false, if◌then◌else◌, List, [], ◌∷◌, Option, Some, None, IfSome}
use Rattle.std.proofs.ByRecursion.{All-append}
use Rattle.std.specs.List.{AllByRecursion}
use Rattle.std.specs.Prelude.{nat_le}
use Rattle.tracing_core_fields.specs.PlainMetadata.{PlainMetadata}
use Rattle.span_registry_layers_store.specs.RegistryCalls.{dropped}
use Rattle.span_registry_layers_store.specs.Registries.{PlainSpan, RegistryValue, kin_in, one_less, one_more}
use Rattle.span_registry_layers_store.specs.Registries.{with_span}
use Rattle.span_registry_layers_store.specs.Spans.{changed, found, keep_if, open_of, stays}
use Rattle.span_registry_layers_store.specs.Views.{seen_if, sees}
use Rattle.span_tracing_skeleton.specs.Acting as acting
use Rattle.span_tracing_skeleton.specs.Acting.{asked_for, cloned, entered, given_up, held, left, let_go, let_go_at, made_by, parent_id}
use Rattle.span_tracing_skeleton.specs.Acting.{restored}
use Rattle.span_tracing_skeleton.specs.Acting.{with_made, with_registry}
use Rattle.span_tracing_skeleton.specs.Looking.{chosen, default_of, guard_at, if_kind, is_kind, known, named, reach}
use Rattle.span_tracing_skeleton.specs.Looking.{registry_at}
use Rattle.span_tracing_skeleton.specs.Looking.{registry_in, stack_behind, stack_with}
use Rattle.span_tracing_skeleton.specs.Machine.{acted, after, or_same}
use Rattle.span_tracing_skeleton.specs.Order.{refusal_of}
use Rattle.span_tracing_skeleton.specs.PlainData.{PlainStep, Request, GlobalStep, EventStep, EnabledStep, SpanStep}
use Rattle.span_tracing_skeleton.specs.PlainData.{RecordStep, FollowsFromStep, EnterStep, ExitStep, CloneStep, CloseStep, DefaultStep}
use Rattle.span_tracing_skeleton.specs.PlainData.{ResetStep, CloneHandleStep, ReleaseStep, SetStep}
use Rattle.span_tracing_skeleton.specs.Skeleton.{GuardValue, HeldStack, Skeleton, Answers, Unasked, Wanted, Dropped, Passed, Heard}
use Rattle.span_tracing_skeleton.specs.declared.call.SpanName.{SpanName}
use Rattle.span_tracing_skeleton.specs.declared.refusal.Refusal.{Refusal}
use Rattle.span_tracing_laws.specs.machines.Steps.{IsSkeletonOf}

if_either : {A : Type 0} (P : A → Type 0) (first : Bool) (x : A) (o : Option A) → P x → IfSome o P → IfSome (if first then Some x else o) P
if_either P true x o is other = is
if_either P false x o is other = other

module _ (M : PlainMetadata → Type 0) where
  -- spans of such metadata
  abbrev pub IsSpan : PlainSpan → Type 0
  IsSpan x = M x.metadata

  abbrev pub AreSpans : List PlainSpan → Type 0
  AreSpans xs = AllByRecursion IsSpan xs

  pub found_in : (xs : List PlainSpan) (id : ℕ) → AreSpans xs → IfSome (found kin_in xs id) IsSpan
  found_in [] id all = tt
  found_in (x ∷ xs) id all = if_either IsSpan (x.kin.id == id) x (found kin_in xs id) all.0 (found_in xs id all.1)

  pub seen_is : (mask : Option ℕ) (o : Option PlainSpan) → IfSome o IsSpan → IfSome (seen_if mask o) IsSpan
  seen_is mask None is = tt
  seen_is mask (Some s) is = if_either IsSpan (sees mask s) s None is tt

  pub dropped_is : (xs : List PlainSpan) (id : ℕ) → AreSpans xs → AreSpans (dropped xs id)
  dropped_is [] id all = tt
  dropped_is (x ∷ xs) id all = by_test (x.kin.id == id) (dropped xs id) (dropped_is xs id all.1)
    where
      by_test : (same : Bool) (later : List PlainSpan) → AreSpans later → AreSpans (if same then xs else x ∷ later)
      by_test true later rest = all.1
      by_test false later rest = (all.0, rest)

  module _ (f : PlainSpan → PlainSpan) (keeps : (x : PlainSpan) → IsSpan x → IsSpan (f x)) where
    pub changed_is : (xs : List PlainSpan) (id : ℕ) → AreSpans xs → AreSpans (changed kin_in f xs id)
    changed_is [] id all = tt
    changed_is (x ∷ xs) id all = by_test (x.kin.id == id) (changed kin_in f xs id) (changed_is xs id all.1)
      where
        by_test : (same : Bool) (later : List PlainSpan) → AreSpans later → AreSpans (if same then f x ∷ xs else x ∷ later)
        by_test true later rest = (keeps x all.0, all.1)
        by_test false later rest = (all.0, rest)

  kept_if : (keeps : Bool) (x : PlainSpan) (xs : List PlainSpan) → IsSpan x → AreSpans xs → AreSpans (keep_if keeps x xs)
  kept_if true x xs is all = (is, all)
  kept_if false x xs is all = all

  open_is : (lanes : List (List ℕ)) (xs : List PlainSpan) → AreSpans xs → AreSpans (open_of kin_in lanes xs)
  unfolding open_of
  open_is lanes [] all = tt
  open_is lanes (x ∷ xs) all = kept_if (stays kin_in lanes x (open_of kin_in lanes xs)) x (open_of kin_in lanes xs) all.0
      (open_is lanes xs all.1)

  -- the callsites
  pub kind_is : (o : Option PlainMetadata) (is_span : Bool) → IfSome o M → IfSome (if_kind o is_span) M
  kind_is None is_span is = tt
  kind_is (Some m) is_span is = if_either M (is_kind m is_span) m None is tt

  pub named_is : (ms : List PlainMetadata) (number : ℕ) → AllByRecursion M ms → IfSome (named ms number) M
  named_is [] number all = tt
  named_is (m ∷ ms) number all = if_either M (m.callsite == number) m (named ms number) all.0 (named_is ms number all.1)

  -- what a step that isn't refused leaves
  pub with_span_is : (x : RegistryValue) (m : PlainMetadata) (parent : Option ℕ) (passed : List Bool) → AreSpans x.spans → M m →
      AreSpans (with_span x m parent passed).spans
  with_span_is x m parent passed all is = All-append IsSpan x.spans _ all (is, tt)

  abbrev IsHeld : HeldStack → Type 0
  IsHeld k = AreSpans k.registry.spans

  abbrev AreHeld : List HeldStack → Type 0
  AreHeld ks = AllByRecursion IsHeld ks

  registry_if : (same : Bool) (k : HeldStack) (o : Option HeldStack) → IsHeld k → AreSpans (registry_in o).spans →
      AreSpans (registry_in (if same then Some k else o)).spans
  registry_if true k o is later = is
  registry_if false k o is later = later

  stack_is : (ks : List HeldStack) (stack : ℕ) → AreHeld ks → AreSpans (registry_in (stack_with stack ks)).spans
  stack_is [] stack all = tt
  stack_is (k ∷ ks) stack all = registry_if (k.number == stack) k (stack_with stack ks) all.0 (stack_is ks stack all.1)

  module _ (f : HeldStack → HeldStack) (keeps : (k : HeldStack) → IsHeld k → IsHeld (f k)) where
    other_is : (ks : List HeldStack) (stack : ℕ) → AreHeld ks → AreHeld (acting.changed stack f ks)
    other_is [] stack all = tt
    other_is (k ∷ ks) stack all = by_test (k.number == stack) (acting.changed stack f ks) (other_is ks stack all.1)
      where
        by_test : (same : Bool) (later : List HeldStack) → AreHeld later → AreHeld (if same then f k ∷ ks else k ∷ later)
        by_test true later rest = (keeps k all.0, all.1)
        by_test false later rest = (all.0, rest)

  without_is : (ks : List HeldStack) (stack : ℕ) → AreHeld ks → AreHeld (acting.without stack ks)
  without_is [] stack all = tt
  without_is (k ∷ ks) stack all = by_test (k.number == stack) (acting.without stack ks) (without_is ks stack all.1)
    where
      by_test : (same : Bool) (later : List HeldStack) → AreHeld later → AreHeld (if same then ks else k ∷ later)
      by_test true later rest = all.1
      by_test false later rest = (all.0, rest)

  held_is : (o : Option ℕ) (ks : List HeldStack) → AreHeld ks → AreHeld (held o ks)
  held_is None ks all = all
  held_is (Some stack) ks all = other_is acting.one_more (λ k is. is) ks stack all

  let_go_if : (last : Bool) (stack : ℕ) (ks : List HeldStack) → AreHeld ks →
      AreHeld (if last then acting.without stack ks else acting.changed stack acting.one_less ks)
  let_go_if true stack ks all = without_is ks stack all
  let_go_if false stack ks all = other_is acting.one_less (λ k is. is) ks stack all

  let_go_in : (stack : ℕ) (ks : List HeldStack) (o : Option HeldStack) → AreHeld ks → AreHeld (let_go_at stack ks o)
  let_go_in stack ks None all = all
  let_go_in stack ks (Some k) all = let_go_if (nat_le k.holds 1) stack ks all

  let_go_is : (o : Option ℕ) (ks : List HeldStack) → AreHeld ks → AreHeld (let_go o ks)
  let_go_is None ks all = all
  let_go_is (Some stack) ks all = let_go_in stack ks (stack_with stack ks) all

  -- the callsites together are such that each has such metadata
  module _ (C : List PlainMetadata → Type 0) (find : (ms : List PlainMetadata) (number : ℕ) → C ms → IfSome (named ms number) M) where
    abbrev pub IsSkeleton : Skeleton → Type 0
    IsSkeleton s = IsSkeletonOf C M s

    pub known_is : (s : Skeleton) (number : ℕ) (is_span : Bool) → IsSkeleton s → IfSome (known s number is_span) M
    known_is s number is_span range = kind_is (named s.callsites number) is_span (find s.callsites number range.callsites)

    pub spans_are : (s : Skeleton) (stack : ℕ) → IsSkeleton s → AreSpans (registry_at s stack).spans
    spans_are s stack range = stack_is s.stacks stack range.spans

    with_is : (s : Skeleton) (stack : ℕ) (y : RegistryValue) → IsSkeleton s → AreSpans y.spans →
        IsSkeleton (with_registry s stack y)
    with_is s stack y range is = record {
      callsites = range.callsites;
      spans = other_is (λ (k : HeldStack). record k { registry = y }) (λ k old. is) s.stacks stack range.spans;
    }

    made_is : (s : Skeleton) (o : Option ℕ) (n : Request) (k : Option PlainMetadata) (passed : List Bool) → IfSome k M →
        IsSkeleton s → IsSkeleton (with_made s o n k passed)
    made_is s None n k passed is range = range
    made_is s (Some stack) n None passed is range = range
    made_is s (Some stack) n (Some m) passed is range =
        with_is s stack _ range (with_span_is (registry_at s stack) m (parent_id (registry_at s stack) n.lane n.parent) passed
        (spans_are s stack range) is)

    restored_is : (s : Skeleton) (lane guard : ℕ) (o : Option GuardValue) → IsSkeleton s → IsSkeleton (restored s lane guard o)
    restored_is s lane guard None range = range
    restored_is s lane guard (Some g) range = record {
      callsites = range.callsites;
      spans = let_go_is (chosen (default_of s lane)) s.stacks range.spans;
    }

    made_by_is : (s : Skeleton) (n : Request) (a : Answers) → IsSkeleton s → IsSkeleton (made_by s n a)
    made_by_is s n Unasked range = range
    made_by_is s n (Wanted b) range = range
    made_by_is s n Dropped range = range
    made_by_is s n (Passed passed) range =
        made_is s (reach s n.lane) n (known s n.callsite true) passed (known_is s n.callsite true range) range
    made_by_is s n (Heard passed told) range = range

    cloned_is : (s : Skeleton) (o : Option SpanName) → IsSkeleton s → IsSkeleton (cloned s o)
    cloned_is s None range = range
    cloned_is s (Some name) range =
        with_is s name.stack _ range (changed_is one_more (λ x is. is) (registry_at s name.stack).spans name.id.value
        (spans_are s name.stack range))

    entered_is : (s : Skeleton) (lane : ℕ) (o : Option SpanName) → IsSkeleton s → IsSkeleton (entered s lane o)
    entered_is s lane None range = range
    entered_is s lane (Some name) range = with_is s name.stack _ range (spans_are s name.stack range)

    left_is : (s : Skeleton) (lane : ℕ) (o : Option SpanName) → IsSkeleton s → IsSkeleton (left s lane o)
    left_is s lane None range = range
    left_is s lane (Some name) range =
        with_is s name.stack _ range (open_is _ (registry_at s name.stack).spans (spans_are s name.stack range))

    given_up_is : (s : Skeleton) (o : Option SpanName) → IsSkeleton s → IsSkeleton (given_up s o)
    given_up_is s None range = range
    given_up_is s (Some name) range =
        with_is s name.stack _ range (open_is _ _
        (changed_is one_less (λ x is. is) (registry_at s name.stack).spans name.id.value (spans_are s name.stack range)))

    acted_is : (s : Skeleton) (step : PlainStep) (a : Answers) → IsSkeleton s → IsSkeleton (acted s step a)
    acted_is s (GlobalStep handle) a range = record {
      callsites = range.callsites;
      spans = held_is (stack_behind s handle) s.stacks range.spans;
    }
    acted_is s (EventStep e) a range = range
    acted_is s (EnabledStep call) a range = range
    acted_is s (SpanStep n) a range = made_by_is s n a range
    acted_is s (RecordStep r) a range = range
    acted_is s (FollowsFromStep call) a range = range
    acted_is s (EnterStep call) a range = entered_is s call.lane call.span range
    acted_is s (ExitStep call) a range = left_is s call.lane call.span range
    acted_is s (CloneStep call) a range = cloned_is s call.span range
    acted_is s (CloseStep call) a range = given_up_is s call.span range
    acted_is s (DefaultStep call) a range = record {
      callsites = range.callsites;
      spans = held_is (asked_for s call.handle) s.stacks range.spans;
    }
    acted_is s (ResetStep call) a range = restored_is s call.lane call.guard (guard_at s call.guard) range
    acted_is s (CloneHandleStep handle) a range = record {
      callsites = range.callsites;
      spans = held_is (stack_behind s handle) s.stacks range.spans;
    }
    acted_is s (ReleaseStep handle) a range = record {
      callsites = range.callsites;
      spans = let_go_is (stack_behind s handle) s.stacks range.spans;
    }
    acted_is s (SetStep call) a range = range

    same_or : (o : Option Refusal) (s t : Skeleton) → IsSkeleton s → IsSkeleton t → IsSkeleton (or_same o s t)
    same_or None s t old new = new
    same_or (Some refusal) s t old new = old

    pub after_is : (s : Skeleton) (step : PlainStep) (a : Answers) → IsSkeleton s → IsSkeleton (after s step a)
    after_is s step a range = same_or (refusal_of s step) s (acted s step a) range (acted_is s step a range)
