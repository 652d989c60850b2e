-- What the calls of a stack tell its outputs: each goes through its own notices.
use Rattle.std.specs.Prelude.{◌≡◌, ℕ, List, Bool, Option, Some, None, Result, Ok, Err}
use Rattle.tracing_core_fields.specs.requests.PlainRequests.{PlainAttributes, PlainEvent, PlainValues, explicit_parent}
use Rattle.tracing_core_moments.specs.declared.at.At.{At}
use Rattle.tracing_core_fields.specs.declared.requests.refusal.RequestError.{RequestError}
use Rattle.span_registry_layers_store.specs.SlotIndependence.{bare}
use Rattle.span_registry_layers_store.specs.RegistryCalls.{close_refusal, span_refusal}
use Rattle.span_registry_layers_store.specs.Laws.{IsSound}
use Rattle.span_registry_layers_store.specs.Registries.{RegistryValue, knows, swept, under, with_entry, with_span, without_entry}
use Rattle.span_registry_layers_store.specs.Registries.{without_handle}
use Rattle.span_registry_layers_layers.specs.declared.filter.Filter.{Ghosts as FilterGhosts}
use Rattle.span_registry_layers_layers.specs.declared.filtered.Filtered.{Filtered}
use Rattle.span_registry_layers_layers.specs.declared.layer.Layer.{Ghosts as LayerGhosts}
use Rattle.span_registry_layers.specs.Calls.{CloseGives, EnterGives, ExitGives, MakesSpan, RecordGives}
use Rattle.span_registry_layers.specs.OutputSlots.{Afresh, AsksEventBy, EachBecomes, marks_of}
use Rattle.span_registry_layers.specs.SpanNotices.{each_sees}
use Rattle.span_registry_layers.specs.Stacks.{EventAsked, StackValue, WhereKnown}
use Rattle.event_formatter_text.specs.declared.format_fields.FormatFields.{Ghosts}
use Rattle.event_formatter_text.specs.declared.settings.Settings.{Settings}
use Rattle.event_formatter.specs.formats.Contexts.{PlainContext}
use Rattle.span_tracing_outputs.specs.OutputNotices.{Notice, close_told, enter_told, event_told, exit_told, span_told}
use Rattle.span_tracing_outputs.specs.OutputMachines.{Made, Recorded}
use Rattle.span_tracing_outputs.specs.Turns.{AreDistinct, EachFollows, Lined, Lines, keys_of}

-- a stack of layers that keep their lines
abbrev pub LinedStack : Type 0 → Type 0 → Type 0 → Type 0
LinedStack N E F = StackValue (Filtered (Lines N E) F)

-- where the call was taken, outputs are told; else all stays
abbrev pub IfTaken : {A V : Type 0} → Result A RequestError → V → Type 0 → V → Type 0
IfTaken (Ok done) s goes t = goes
IfTaken (Err e) s goes t = t ≡ s

-- a span that is refused changes nothing
abbrev pub IfMade : {N E F : Type 0} → Result (Option ℕ) RequestError → LinedStack N E F → (ℕ → Type 0) → LinedStack N E F → Type 0
IfMade (Ok (Some id)) s goes t = goes id
IfMade (Ok None) s goes t = ⊥
IfMade (Err e) s goes t = t ≡ s

module _ {N E F : Type 0} (n : Ghosts N) (line_of : E → Settings → PlainContext → PlainEvent → Option (List ℕ)) (g : FilterGhosts F) where
  -- the outputs go through these notices, each by its number, and the skeleton is left so
  abbrev pub Goes : (ℕ → List Notice) → RegistryValue → LinedStack N E F → LinedStack N E F → Type 0
  Goes ns left s t = EachFollows n line_of g (λ row. ns row.id.index) s.registry s.rows t.registry t.rows × (bare t.registry ≡ left)

  -- each filter was asked of the event, and marked, and then each output goes through the notice where its filter passed it
  abbrev pub EventGoes : PlainEvent → At → LinedStack N E F → LinedStack N E F → Type 0
  EventGoes e at s t =
      (asked : List (Lined N E F)) × EachBecomes (AsksEventBy g (Afresh g) e at s.registry) s.rows asked
      × EachFollows n line_of g (λ row. event_told (bare s.registry) at e row.told row.id.index) s.registry asked t.registry t.rows ×
      (bare t.registry ≡ bare s.registry) × (marks_of t.rows ≡ marks_of asked)

  -- the span that is made, what its outputs are told, and the marks that are left: whether each output's filter passed it
  abbrev pub made_in : RegistryValue → PlainAttributes → At → List Bool → RegistryValue
  made_in k a at verdicts = with_span k a.metadata (under k at.lane a.parent) verdicts

  abbrev pub SpanGoes : PlainAttributes → At → List Bool → LinedStack N E F → ℕ → LinedStack N E F → Type 0
  SpanGoes a at verdicts s id t =
      let k = bare s.registry in
      (span_refusal s.registry a.parent ≡ None) × (id ≡ s.registry.next_id) ×
      Goes (span_told (made_in k a at verdicts) at (Made a) k.next_id) (made_in k a at verdicts) s t ×
      (marks_of t.rows ≡ each_sees (made_in k a at verdicts) id s.rows)

  abbrev pub CloseGoes : Option RequestError → ℕ → At → LinedStack N E F → LinedStack N E F → Type 0
  CloseGoes None id at s t = let k = bare s.registry in Goes (close_told k at id) (swept (without_handle k id)) s t
  CloseGoes (Some refusal) id at s t = t ≡ s

  module _ (h : LayerGhosts (Lines N E)) where
    pub record StackFollows : Type 0 where
      pub event : (s t : LinedStack N E F) (e : PlainEvent) (at : At) (r : Result (Unit {0}) RequestError) → AreDistinct (keys_of s.rows) →
          EventAsked g h e at s r t →
          WhereKnown (knows s.registry (explicit_parent e.parent)) s (EventGoes e at s) r t
      pub span : (s t : LinedStack N E F) (a : PlainAttributes) (at : At) (verdicts : List Bool) (r : Result (Option ℕ) RequestError) →
          AreDistinct (keys_of s.rows) →
          MakesSpan g h a at verdicts s r t → IfMade r s (λ id. SpanGoes a at verdicts s id t) t
      pub values : (s t : LinedStack N E F) (id : ℕ) (values : PlainValues) (at : At) (r : Result (Unit {0}) RequestError) →
          AreDistinct (keys_of s.rows) → RecordGives g h id values at s r t →
          IfTaken r s (Goes (span_told (bare s.registry) at (Recorded values) id) (bare s.registry) s t) t
      pub entry : (s t : LinedStack N E F) (id : ℕ) (at : At) (r : Result (Unit {0}) RequestError) → AreDistinct (keys_of s.rows) →
          EnterGives g h id at s r t →
          IfTaken r s (Goes (enter_told (bare s.registry) at id) (with_entry (bare s.registry) at.lane id) s t) t
      pub exit : (s t : LinedStack N E F) (id : ℕ) (at : At) → IsSound s.registry → AreDistinct (keys_of s.rows) → ExitGives g h id at s t →
          Goes (exit_told (bare s.registry) at id) (swept (without_entry (bare s.registry) at.lane id)) s t
      pub close : (s t : LinedStack N E F) (id : ℕ) (at : At) (r : Bool) → IsSound s.registry → AreDistinct (keys_of s.rows) →
          CloseGives g h id at s r t →
          CloseGoes (close_refusal s.registry id) id at s t
