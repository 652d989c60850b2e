-- What outputs are told of tame steps is tame.
use Rattle.std.proofs.Common.{◌≡◌, ℕ, zero, suc, true, false, List, [], ◌∷◌, Option, Some, None, IfSome}
use Rattle.std.proofs.Common.{slice_index_or, sym, subst}
use Rattle.std.specs.List.{AllByRecursion}
use Rattle.tracing_core_fields.specs.PlainMetadata.{PlainMetadata}
use Rattle.tracing_core_fields.specs.PlainValue.{PlainValue, debug_of}
use Rattle.event_formatter_text.specs.FieldTexts.{plain_name}
use Rattle.event_formatter_text.specs.HarmlessTexts.{AreTame, IsTame, LetsPass}
use Rattle.event_formatter_text.specs.TerminalControls.{steers}
use Rattle.span_tracing_skeleton.specs.Looking.{known, named}
use Rattle.span_tracing_skeleton.specs.PlainData.{Request}
use Rattle.span_tracing_skeleton.specs.Skeleton.{Skeleton}
use Rattle.span_tracing_steps.specs.StackRequests.{own_values, request_of}
use Rattle.span_tracing_laws.specs.harmless.Lines.{IsTameEvent, IsTameMetadata}
use Rattle.span_tracing_laws.specs.harmless.Steps.{AreTameFor, AreTameForEach, IsTameRequest}
use Rattle.span_tracing_laws.proofs.machines.Skeletons.{kind_is, named_is}
use Rattle.span_tracing_laws.proofs.harmless.Texts.{nothing, plain_is}

name_at : (names : List (List ℕ)) (i : ℕ) → AllByRecursion LetsPass names → LetsPass (slice_index_or names i [])
name_at [] i all = nothing
name_at (name ∷ names) zero all = all.0
name_at (name ∷ names) (suc i) all = name_at names i all.1

-- values of a callsite with tame metadata
entries_are : (names : List (List ℕ)) (entries : List (ℕ × PlainValue)) → AllByRecursion LetsPass names →
    AllByRecursion (λ v. IsTame (slice_index_or names v.0 []) (debug_of v.1)) entries →
    AllByRecursion (λ e. (steers (plain_name (slice_index_or names e.0 [])) ≡ false)
    × IsTame (slice_index_or names e.0 []) (debug_of e.1)) entries
entries_are names [] all tame = tt
entries_are names (v ∷ vs) all tame =
    ((plain_is (slice_index_or names v.0 []) (name_at names v.0 all), tame.0), entries_are names vs all tame.1)

values_are : (m : PlainMetadata) (values : List (ℕ × PlainValue)) → IsTameMetadata m → AreTameFor m values → AreTame (own_values m values)
values_are m values metadata tame = entries_are m.field_names (own_values m values).entries metadata.field_names tame

both_are : {A : Type 0} (P Q R : A → Type 0) (o : Option A) → IfSome o P → IfSome o Q → ((x : A) → P x → Q x → R x) → IfSome o R
both_are P Q R None p q gives = tt
both_are P Q R (Some x) p q gives = gives x p q

-- these callsites, which are tame
module _ (known_ones : List PlainMetadata) where
  abbrev pub AreThese : List PlainMetadata → Type 0
  AreThese ms = (ms ≡ known_ones) × AllByRecursion IsTameMetadata ms

  pub metadata_is : (ms : List PlainMetadata) (number : ℕ) → AreThese ms → IfSome (named ms number) IsTameMetadata
  metadata_is ms number these = named_is IsTameMetadata ms number these.1

  request_is : (s : Skeleton) (r : Request) → AreThese s.callsites → IsTameRequest known_ones r →
      IfSome (named s.callsites r.callsite) (λ m. AreTameFor m r.values)
  request_is s r these tame =
      subst (λ (ms : List PlainMetadata). IfSome (named ms r.callsite) (λ m. AreTameFor m r.values)) (sym these.0) tame

  pub event_is : (s : Skeleton) (e : Request) → AreThese s.callsites → IsTameRequest known_ones e →
      IfSome (known s e.callsite false) (λ m. IsTameEvent (request_of m e))
  event_is s e these tame =
      kind_is (λ m. IsTameEvent (request_of m e)) (named s.callsites e.callsite) false
      (both_are IsTameMetadata (λ m. AreTameFor m e.values) (λ m. IsTameEvent (request_of m e)) (named s.callsites e.callsite)
      (metadata_is s.callsites e.callsite these) (request_is s e these tame)
      (λ m metadata values. (metadata, values_are m e.values metadata values)))

  pub span_is : (s : Skeleton) (r : Request) → AreThese s.callsites → IsTameRequest known_ones r →
      IfSome (known s r.callsite true) (λ m. AreTame (own_values m r.values))
  span_is s r these tame =
      kind_is (λ m. AreTame (own_values m r.values)) (named s.callsites r.callsite) true
      (both_are IsTameMetadata (λ m. AreTameFor m r.values) (λ m. AreTame (own_values m r.values)) (named s.callsites r.callsite)
      (metadata_is s.callsites r.callsite these) (request_is s r these tame)
      (λ m metadata values. values_are m r.values metadata values))

  pub record_is : (ms : List PlainMetadata) (number : ℕ) (values : List (ℕ × PlainValue)) → AreThese ms →
      AreTameForEach known_ones values → IfSome (named ms number) (λ m. AreTame (own_values m values))
  record_is ms number values these tame =
      both_are IsTameMetadata (λ m. AreTameFor m values) (λ m. AreTame (own_values m values)) (named ms number)
      (metadata_is ms number these)
      (named_is (λ m. AreTameFor m values) ms number (subst (λ (xs : List PlainMetadata). AreTameForEach xs values) (sym these.0) tame))
      (λ m metadata each. values_are m values metadata each)
