-- Callsites that an application registers.
use Rattle.std.specs.Prelude.{◌≡◌, ◌<◌, ◌⊎◌, ℕ, true, false, List, None, Some, Result, Ok, Err, is_some}
use Rattle.tracing_core_fields.specs.FieldSet.{field_names, set_callsite}
use Rattle.tracing_core_fields.specs.PlainKind.{PlainKind}
use Rattle.tracing_core_fields.specs.PlainMetadata.{PlainMetadata}
use Rattle.tracing_core_fields.specs.requests.Interests.{PlainInterest}
use Rattle.tracing_core_fields.specs.declared.requests.subscriber.Subscriber.{Ghosts}
use Rattle.span_tracing_skeleton.specs.Looking.{named}
use Rattle.span_tracing_skeleton.specs.declared.refusal.Refusal.{Refusal}
use Rattle.span_tracing_skeleton.specs.declared.refusal.Refusal.TheVariants.{Taken}
use Rattle.span_tracing_steps.specs.Setup.{RegisterGives, own_at}
use Rattle.span_tracing_steps.specs.States.{StateValue, at_index, callsites_of}
use Rattle.span_tracing.specs.declared.site.Site.{Site}

module _ {T : Type 0} (g : Ghosts T) (v : StateValue T) (m : PlainMetadata) where
  -- a site that is answered was registered under its identifier, and stands at its index; else what is answered is why it was refused
  abbrev pub RegistersSite : Result Site Refusal → StateValue T → Type 0
  RegistersSite (Ok site) w =
      (k : PlainInterest) × RegisterGives g v (own_at m.callsite m) (Ok k) w × (site.identifier.0 ≡ m.callsite) ×
      (at_index (callsites_of w.hub.callsites) (Some site.index) ≡ named (callsites_of w.hub.callsites) m.callsite)
  RegistersSite (Err refusal) w = RegisterGives g v (own_at m.callsite m) (Err refusal) w

-- what makes events
abbrev pub event_kind : PlainKind
event_kind = record { is_event = true; is_span = false; is_hint = false }

-- what makes spans
abbrev pub span_kind : PlainKind
span_kind = record { is_event = false; is_span = true; is_hint = false }

-- the metadata of a callsite that tells nothing of its place in the source
abbrev pub site_metadata : List ℕ → List ℕ → ℕ → List (List ℕ) → PlainKind → ℕ → PlainMetadata
site_metadata target name level fields kind identifier = record {
  name = name;
  target = target;
  level = level;
  module_path = None;
  file = None;
  line = None;
  field_names = fields;
  callsite = identifier;
  kind = kind;
}

-- the fields of a site that is answered, and the callsite that they are of
abbrev pub HasFields : PlainMetadata → Result Site Refusal → Type 0
HasFields m (Ok site) = (field_names site.fields ≡ m.field_names) × (set_callsite site.fields ≡ m.callsite)
HasFields m (Err refusal) = Unit {0}

-- each identifier but the greatest has a callsite
abbrev pub AreTaken : List PlainMetadata → Type 0
AreTaken callsites = (n : ℕ) → n < 18446744073709551615 → is_some (named callsites n) ≡ true

-- a callsite was registered under an identifier that was free, or none was left
abbrev pub MakesSite : {T : Type 0} → Ghosts T → StateValue T → (ℕ → PlainMetadata) → Result Site Refusal → StateValue T → Type 0
MakesSite g v m result w =
    ((identifier : ℕ) × (named (callsites_of v.hub.callsites) identifier ≡ None) × RegistersSite g v (m identifier) result w ×
    HasFields (m identifier) result) ⊎
    (AreTaken (callsites_of v.hub.callsites) × (result ≡ Err Taken) × (w ≡ v))
