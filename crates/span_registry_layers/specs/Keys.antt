-- Layers that write slots under the key of their own output alone.
use Rattle.std.specs.Prelude.{◌≡◌, ◌==◌, ℕ, true, List, map}
use Rattle.tracing_core_moments.specs.declared.at.At.{At}
use Rattle.tracing_core_fields.specs.requests.Calls.{Call, ReplyTo}
use Rattle.tracing_core_fields.specs.requests.Lists.{Every}
use Rattle.tracing_core_fields.specs.requests.PlainRequests.{PlainEvent}
use Rattle.span_registry_layers_store.specs.SlotIndependence.{SameButKeys}
use Rattle.span_registry_layers_store.specs.Registries.{RegistryValue}
use Rattle.span_registry_layers_layers.specs.FilterViews.{Hook, View}
use Rattle.span_registry_layers_layers.specs.declared.filter.Filter.{Ghosts}
use Rattle.span_registry_layers_layers.specs.declared.filtered.Filtered.{Filtered}
use Rattle.span_registry_layers_layers.specs.declared.layer.Layer.{Ghosts as LayerGhosts}
use Rattle.span_registry_layers.specs.SpanNotices.{TellsFollows, TellsMade, TellsSpan}
use Rattle.span_registry_layers.specs.Moves.{Moves}
use Rattle.span_registry_layers.specs.NewStack.{IsNew}
use Rattle.span_registry_layers.specs.OutputSlots.{TellsEvent}
use Rattle.span_registry_layers.specs.Stacks.{StackValue}
use Rattle.span_registry_layers.specs.declared.output.Output.{Output}
use Rattle.span_registry_layers.specs.declared.output_slot.OutputSlot.{OutputSlot}

-- the outputs' keys, in order
abbrev pub keys_in : {O : Type 0} → StackValue O → List ℕ
keys_in {O = O} s = map (λ (row : OutputSlot O). row.key.0) s.rows

-- a layer writes slots under this key alone
abbrev pub WritesUnderOne : {L : Type 0} → LayerGhosts L → L → ℕ → Type 0
WritesUnderOne h layer own = (key : ℕ) → h.keys layer key ≡ true → key ≡ own

-- the layer of each output writes under the output's key alone
abbrev pub LayersKeepToKeys : {L F : Type 0} → LayerGhosts L → StackValue (Filtered L F) → Type 0
LayersKeepToKeys {L = L} {F = F} h s = Every (λ (row : OutputSlot (Filtered L F)). WritesUnderOne h row.output.layer row.key.0) s.rows

-- a turn of an output leaves a registry but for slots under the output's key
abbrev pub WritesOwn : {O : Type 0} → OutputSlot O → RegistryValue → RegistryValue → Type 0
WritesOwn row x y = SameButKeys (λ key. key == row.key.0) x y

module _ {L F : Type 0} (g : Ghosts F) (h : LayerGhosts L) where
  -- so it is in a new stack, where it was of the outputs that it is made of
  abbrev pub NewKeepsToKeys : Type 0
  NewKeepsToKeys =
      (outputs : List (Output (Filtered L F))) (s : StackValue (Filtered L F)) → IsNew h g outputs s →
      Every (λ (output : Output (Filtered L F)). WritesUnderOne h output.output.layer output.key.0) outputs → LayersKeepToKeys h s

  -- and after each call of the core, which keeps the outputs' keys
  abbrev pub CallsKeepToKeys : Type 0
  CallsKeepToKeys = (s : StackValue (Filtered L F)) (c : Call) (r : ReplyTo c) (t : StackValue (Filtered L F)) → Moves g h s c r t →
      (keys_in t ≡ keys_in s) × (LayersKeepToKeys h s → LayersKeepToKeys h t)

  -- such an output writes in its turn under its key alone, whatever it is told
  pub record TurnsKeepToKeys : Type 0 where
    pub made : (call : View → Hook) (id : ℕ) (at : At) (x : RegistryValue) (row : OutputSlot (Filtered L F)) (y : RegistryValue)
        (later : OutputSlot (Filtered L F)) → WritesUnderOne h row.output.layer row.key.0 → TellsMade g h call id at x row y later →
        WritesOwn row x y
    pub spanned : (call : View → Hook) (id : ℕ) (at : At) (x : RegistryValue) (row : OutputSlot (Filtered L F)) (y : RegistryValue)
        (later : OutputSlot (Filtered L F)) → WritesUnderOne h row.output.layer row.key.0 → TellsSpan g h call id at x row y later →
        WritesOwn row x y
    pub followed : (id follows : ℕ) (at : At) (x : RegistryValue) (row : OutputSlot (Filtered L F)) (y : RegistryValue)
        (later : OutputSlot (Filtered L F)) → WritesUnderOne h row.output.layer row.key.0 → TellsFollows g h id follows at x row y later →
        WritesOwn row x y
    pub happened : (e : PlainEvent) (at : At) (x : RegistryValue) (row : OutputSlot (Filtered L F)) (y : RegistryValue)
        (later : OutputSlot (Filtered L F)) → WritesUnderOne h row.output.layer row.key.0 → TellsEvent h e at x row y later →
        WritesOwn row x y
