-- What telling outputs leaves of a stack's registry.
use Rattle.std.proofs.Common.{◌≡◌, ◌&&◌, ℕ, Bool, true, false, List, [], ◌∷◌, sym, ap, ◌∙◌}
use Rattle.tracing_core_moments.specs.declared.at.At.{At}
use Rattle.tracing_core_fields.specs.requests.PlainRequests.{PlainEvent}
use Rattle.span_registry_layers_store.specs.SlotIndependence.{SameButSlots, bare, ids_of}
use Rattle.span_registry_layers_store.specs.Registries.{RegistryValue, closing_in, swept}
use Rattle.span_registry_layers_store.proofs.SlotIndependence.{aside_swept, aside_then}
use Rattle.span_registry_layers_layers.specs.FilterViews.{Closed, Hook, View}
use Rattle.span_registry_layers_layers.specs.Notices.{Followed, Happened, Leaves, Notice, Spanned, Untouched, slots_alone}
use Rattle.span_registry_layers_layers.specs.Several.{EachInTurn}
use Rattle.span_registry_layers_layers.specs.declared.filter.Filter.{Ghosts}
use Rattle.span_registry_layers_layers.specs.declared.filtered.Filtered.{Filtered}
use Rattle.span_registry_layers_layers.specs.declared.layer.Layer.{Ghosts as LayerGhosts}
use Rattle.span_registry_layers.specs.Calls.{Closes, over}
use Rattle.span_registry_layers.specs.SpanNotices.{ClosesEach, HearsIf, TellsFollows, TellsMade, TellsSpan, sees}
use Rattle.span_registry_layers.specs.OutputSlots.{TellsEvent, TellsIf, marked, view_of}
use Rattle.span_registry_layers.specs.Stacks.{RowsInTurn, StackValue}
use Rattle.span_registry_layers.specs.declared.output_slot.OutputSlot.{OutputSlot}

-- registries that are as alike as what the layers leave is to what they were given
pub record IsKept {L : Type 0} (h : LayerGhosts L) (Alike : RegistryValue → RegistryValue → Type 0) : Type 0 where
  pub equal : (x y : RegistryValue) → y ≡ x → Alike x y
  pub over_one : (x y z : RegistryValue) → Alike x y → Alike y z → Alike x z
  pub swept : (x y : RegistryValue) → Alike x y → Alike (swept x) (swept y)
  pub aside : (x y : RegistryValue) → Alike x y → SameButSlots x y
  pub told : (layer : L) (n : Notice) (later : L) → h.told layer n later → Leaves Alike n

-- layers write slots alone
pub slots_kept : {L : Type 0} (h : LayerGhosts L) → IsKept h SameButSlots
slots_kept h = record {
  equal = λ x y e. ap bare e;
  over_one = aside_then;
  swept = aside_swept;
  aside = λ x y same. same;
  told =
      λ layer n later told. slots_alone (h.keys layer) n (h.aside layer n later told);
}

-- some write nothing
pub all_kept : {L : Type 0} (h : LayerGhosts L) → ((layer : L) (n : Notice) (later : L) → h.told layer n later → Untouched n) →
    IsKept h (λ x y. y ≡ x)
all_kept h idle = record {
  equal = λ x y e. e;
  over_one = λ x y z a b. b ∙ a;
  swept = λ x y e. ap swept e;
  aside = λ x y e. ap bare e;
  told = idle;
}

module _ {L F : Type 0} (g : Ghosts F) (h : LayerGhosts L) (Alike : RegistryValue → RegistryValue → Type 0) (k : IsKept h Alike) where
  if_left : (b : Bool) (layer : L) (n : View → RegistryValue → Notice) (v : View) (y : RegistryValue) (later : L) →
      (Leaves Alike (n v y) → Alike v.registry y) → TellsIf h b layer n v y later → Alike v.registry y
  if_left true layer n v y later f w = f (k.told layer (n v y) later w)
  if_left false layer n v y later f w = k.equal v.registry y w.1

  hears_left : (b : Bool) (id : ℕ) (call : View → Hook) (v : View) (row : OutputSlot (Filtered L F)) (y : RegistryValue)
      (later : OutputSlot (Filtered L F)) → HearsIf g h b id call v row y later → Alike v.registry y
  hears_left true id call v row y later w = k.told row.output.layer (Spanned id call v y) later.output.layer w.0
  hears_left false id call v row y later w = k.equal v.registry y w.1

  pub span_left : (call : View → Hook) (id : ℕ) (at : At) (x : RegistryValue) (row : OutputSlot (Filtered L F)) (y : RegistryValue)
      (later : OutputSlot (Filtered L F)) → TellsSpan g h call id at x row y later → Alike x y
  span_left call id at x row y later w = hears_left (sees x id row) id call (view_of at x row) row y later w

  pub made_left : (call : View → Hook) (id : ℕ) (at : At) (x : RegistryValue) (row : OutputSlot (Filtered L F)) (y : RegistryValue)
      (later : OutputSlot (Filtered L F)) → TellsMade g h call id at x row y later → Alike x y
  made_left call id at x row y later w = span_left call id at x (marked (sees x id row) row) y later w

  pub follows_left : (id follows : ℕ) (at : At) (x : RegistryValue) (row : OutputSlot (Filtered L F)) (y : RegistryValue)
      (later : OutputSlot (Filtered L F)) → TellsFollows g h id follows at x row y later → Alike x y
  follows_left id follows at x row y later w = if_left (sees x id row && sees x follows row) row.output.layer (Followed id follows)
      (view_of at x row) y later.output.layer (λ same. same) w.0

  pub event_left : (e : PlainEvent) (at : At) (x : RegistryValue) (row : OutputSlot (Filtered L F)) (y : RegistryValue)
      (later : OutputSlot (Filtered L F)) → TellsEvent h e at x row y later → Alike x y
  event_left e at x row y later w = if_left row.told row.output.layer (Happened e) (view_of at x row) y later.output.layer (λ same. same)
      w.0

  pub turns_left : {A B : Type 0} (R : RegistryValue → A → RegistryValue → B → Type 0) →
      ((x : RegistryValue) (row : A) (y : RegistryValue) (later : B) → R x row y later → Alike x y) →
      (x : RegistryValue) (rows : List A) (y : RegistryValue) (later : List B) → EachInTurn R x rows y later → Alike x y
  turns_left R f x [] y [] w = k.equal x y w
  turns_left R f x [] y (l ∷ ls) w = absurd w
  turns_left R f x (r ∷ rs) y [] w = absurd w
  turns_left R f x (r ∷ rs) y (l ∷ ls) w = k.over_one x w.0 y (f x r w.0 l w.1) (turns_left R f w.0 rs y ls w.2)

  pub rows_left : (R : RegistryValue → OutputSlot (Filtered L F) → RegistryValue → OutputSlot (Filtered L F) → Type 0) →
      ((x : RegistryValue) (row : OutputSlot (Filtered L F)) (y : RegistryValue) (later : OutputSlot (Filtered L F)) → R x row y later →
      Alike x y) →
      (x : RegistryValue) (s t : StackValue (Filtered L F)) → RowsInTurn R (over x s) t → Alike x t.registry
  rows_left R f x s t w = turns_left R f x s.rows t.registry t.rows w.0

  each_left : (ids : List ℕ) (at : At) (x : RegistryValue) (rows : List (OutputSlot (Filtered L F))) (y : RegistryValue)
      (later : List (OutputSlot (Filtered L F))) → ClosesEach g h ids at x rows y later → Alike (swept x) (swept y)
  each_left [] at x rows y later w = k.equal (swept x) (swept y) (ap swept w.0)
  each_left (id ∷ ids) at x rows y later (told, z, heard, gone) =
      let heard_left = k.swept x z (turns_left (TellsSpan g h (Closed id) id at) (span_left (Closed id) id at) x rows z told heard) in
      let next = k.over_one (swept x) (swept z) (swept gone.0) heard_left (k.equal (swept z) (swept gone.0) gone.1.3) in
      k.over_one (swept x) (swept gone.0) (swept y) next (each_left ids at gone.0 told y later gone.2)

  pub closes_left : (at : At) (s t : StackValue (Filtered L F)) → Closes g h at s t → Alike (swept s.registry) t.registry
  closes_left at s t w =
      k.over_one (swept s.registry) (swept t.registry) t.registry
      (each_left (ids_of (closing_in s.registry)) at s.registry s.rows t.registry t.rows w.0)
      (k.equal (swept t.registry) t.registry (sym w.2.1))
