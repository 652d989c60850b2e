-- What outputs are told is decided by their numbers.
use Rattle.std.proofs.Common.{◌≡◌, ◌∙◌, ◌==◌, ℕ, Bool, true, false, if◌then◌else◌, List, [], ◌∷◌, map, Option, Some, None, IfSome}
use Rattle.std.proofs.Common.{refl, sym, ap}
use Rattle.std.proofs.lemmas.Simd.{map-map}
use Rattle.tracing_core_fields.specs.PlainMetadata.{PlainMetadata}
use Rattle.tracing_core_fields.specs.requests.PlainRequests.{PlainEvent}
use Rattle.tracing_core_moments.specs.declared.at.At.{At}
use Rattle.span_registry_layers_store.specs.Registries.{RegistryValue}
use Rattle.span_tracing_outputs.specs.OutputNotices.{Notice, event_told}
use Rattle.span_tracing_outputs.specs.OutputFolds.{Numbered, call_lists, event_lists}
use Rattle.span_tracing_skeleton.specs.Looking.{callsite_of, known, reach, registry_at}
use Rattle.span_tracing_skeleton.specs.Machine.{or_same}
use Rattle.span_tracing_skeleton.specs.Order.{refusal_of}
use Rattle.span_tracing_skeleton.specs.PlainData.{PlainStep, Request, RecordRequest, CloseStep, EnterStep, EventStep, ExitStep, RecordStep}
use Rattle.span_tracing_skeleton.specs.PlainData.{SpanStep}
use Rattle.span_tracing_skeleton.specs.Skeleton.{Skeleton, Answers, Heard, Passed}
use Rattle.span_tracing_skeleton.specs.declared.call.SpanName.{SpanName}
use Rattle.span_tracing_skeleton.specs.declared.refusal.Refusal.{Refusal}
use Rattle.span_tracing_laws.specs.runs.StepNotices.{Told, close_told_by, enter_told_by, event_told_by, exit_told_by, record_told_by}
use Rattle.span_tracing_laws.specs.runs.StepNotices.{span_told_by, told_by, told_of, told_to, values_told_by}

abbrev pub numbers_of : {N : Type 0} → List (Numbered N) → List ℕ
numbers_of outs = map (λ o. o.number) outs

abbrev pub ByNumbers : {N : Type 0} → (List (Numbered N) → List (List Notice)) → Type 0
ByNumbers {N} lists = (outs others : List (Numbered N)) → numbers_of outs ≡ numbers_of others → lists outs ≡ lists others

abbrev pub IsByNumbers : {N : Type 0} → Option (Told N) → Type 0
IsByNumbers {N} o = IfSome o (λ (told : Told N). ByNumbers told.lists)

call_by : {N : Type 0} (ns : ℕ → List Notice) → ByNumbers (call_lists {N = N} ns)
call_by ns outs others same = sym (map-map ns (λ o. o.number) outs) ∙ ap (map ns) same ∙ map-map ns (λ o. o.number) others

event_by : {N : Type 0} (x : RegistryValue) (at : At) (e : PlainEvent) (mask : List Bool) → ByNumbers (event_lists {N = N} x at e mask)
event_by x at e [] outs others same = refl
event_by x at e (told ∷ mask) [] [] same = refl
event_by x at e (told ∷ mask) [] (q ∷ others) same = absurd (cc)
event_by x at e (told ∷ mask) (o ∷ outs) [] same = absurd (cc)
event_by x at e (told ∷ mask) (o ∷ outs) (q ∷ others) same =
    let first : o.number ≡ q.number = cc in
    ap (λ (number : ℕ). event_told x at e told number ∷ event_lists x at e mask outs) first ∙
    ap (λ (nss : List (List Notice)). event_told x at e told q.number ∷ nss) (event_by x at e mask outs others (cc))

module _ (N : Type 0) where
  event_is : (s : Skeleton) (e : Request) (o : Option ℕ) (m : Option PlainMetadata) (a : Answers) → IsByNumbers (event_told_by N s e o m a)
  event_is s e (Some stack) (Some m) (Heard passed told) = λ outs others same. event_by (registry_at s stack) _ _ told outs others same
  event_is s e o m a = tt

  span_is : (s : Skeleton) (e : Request) (o : Option ℕ) (m : Option PlainMetadata) (a : Answers) → IsByNumbers (span_told_by N s e o m a)
  span_is s e (Some stack) (Some m) (Passed passed) = λ outs others same. call_by _ outs others same
  span_is s e o m a = tt

  values_are : (s : Skeleton) (r : RecordRequest) (name : SpanName) (m : Option PlainMetadata) → IsByNumbers (values_told_by N s r name m)
  values_are s r name None = tt
  values_are s r name (Some m) = λ outs others same. call_by _ outs others same

  record_is : (s : Skeleton) (r : RecordRequest) (o : Option SpanName) → IsByNumbers (record_told_by N s r o)
  record_is s r None = tt
  record_is s r (Some name) = values_are s r name (callsite_of s name)

  step_is : (s : Skeleton) (step : PlainStep) (a : Answers) → IsByNumbers (told_by N s step a)
  step_is s (EventStep e) a = event_is s e (reach s e.lane) (known s e.callsite false) a
  step_is s (SpanStep e) a = span_is s e (reach s e.lane) (known s e.callsite true) a
  step_is s (RecordStep r) a = record_is s r r.span
  step_is s (EnterStep call) a = elim call.span as (λ o. IsByNumbers (enter_told_by N s call o)) [
    | None ↦ tt
    | Some name ↦ λ outs others same. call_by _ outs others same
  ]
  step_is s (ExitStep call) a = elim call.span as (λ o. IsByNumbers (exit_told_by N s call o)) [
    | None ↦ tt
    | Some name ↦ λ outs others same. call_by _ outs others same
  ]
  step_is s (CloseStep call) a = elim call.span as (λ o. IsByNumbers (close_told_by N s call o)) [
    | None ↦ tt
    | Some name ↦ λ outs others same. call_by _ outs others same
  ]
  step_is s step a = tt

  told_if : (b : Bool) (told : Told N) → ByNumbers told.lists → IsByNumbers (if b then Some told else None)
  told_if true told is = is
  told_if false told is = tt

  told_there : (stack : ℕ) (refusal : Option Refusal) (o : Option (Told N)) → IsByNumbers o →
      IsByNumbers (told_to N stack (or_same refusal None o))
  told_there stack (Some refusal) o is = tt
  told_there stack None None is = tt
  told_there stack None (Some told) is = told_if (told.stack == stack) told is

  pub told_by_numbers : (s : Skeleton) (stack : ℕ) (step : PlainStep) (a : Answers) → IsByNumbers (told_to N stack (told_of N s step a))
  told_by_numbers s stack step a = told_there stack (refusal_of s step) (told_by N s step a) (step_is s step a)
