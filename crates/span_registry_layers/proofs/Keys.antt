-- Layers that write slots under the key of their own output alone.
use Rattle.std.proofs.Common.{◌≡◌, ◌==◌, ◌&&◌, ℕ, suc, Bool, true, false, List, [], ◌∷◌, map, refl, sym, ap, ◌∙◌, subst, arith}
use Rattle.std.proofs.lemmas.Bool.Decides.{nat_tests}
use Rattle.tracing_core_moments.specs.declared.at.At.{At}
use Rattle.tracing_core_fields.specs.requests.Calls.{DispatchRegistered, CallsiteRegistered, Asked, HintAsked, SpanMade, Recorded}
use Rattle.tracing_core_fields.specs.requests.Calls.{FollowsRecorded, EventAsked, EventDispatched, Entered, Exited, Cloned, Dropped}
use Rattle.tracing_core_fields.specs.requests.Calls.{CloseTried, CurrentAsked}
use Rattle.tracing_core_fields.specs.requests.Lists.{Every}
use Rattle.tracing_core_fields.specs.requests.PlainRequests.{PlainEvent}
use Rattle.span_registry_layers_store.specs.SlotIndependence.{SameButKeys, keys_equal}
use Rattle.span_registry_layers_store.specs.Registries.{RegistryValue, new_registry}
use Rattle.span_registry_layers_store.specs.declared.slot.OutputKey.{OutputKey}
use Rattle.span_registry_layers_layers.specs.FilterViews.{Hook, View}
use Rattle.span_registry_layers_layers.specs.Notices.{Attached, Followed, Happened, Notice, Spanned}
use Rattle.span_registry_layers_layers.specs.FilterNumbers.{more_filters}
use Rattle.span_registry_layers_layers.specs.declared.filter.Filter.{Ghosts}
use Rattle.span_registry_layers_layers.specs.declared.filtered.Filtered.{Filtered}
use Rattle.span_registry_layers_layers.specs.declared.layer.Layer.{Ghosts as LayerGhosts}
use Rattle.span_registry_layers.specs.SpanNotices.{HearsIf, TellsFollows, TellsMade, TellsSpan, sees}
use Rattle.span_registry_layers.specs.Keys.{CallsKeepToKeys, LayersKeepToKeys, NewKeepsToKeys, TurnsKeepToKeys, WritesOwn, WritesUnderOne}
use Rattle.span_registry_layers.specs.Keys.{keys_in}
use Rattle.span_registry_layers.specs.NewStack.{RowOf, RowsFrom}
use Rattle.span_registry_layers.specs.OutputSlots.{EachBecomes, TellsEvent, TellsIf, marked, view_of}
use Rattle.span_registry_layers.specs.Stacks.{StackValue, is_refused}
use Rattle.span_registry_layers.specs.Steps.{SameKeys, clone_keeps, close_keeps, dispatch_keeps, enter_keeps, event_keeps, exit_keeps}
use Rattle.span_registry_layers.specs.Steps.{follows_keeps, keys_put, question_keeps, record_keeps, span_keeps}
use Rattle.span_registry_layers.specs.declared.output.Output.{Output}
use Rattle.span_registry_layers.specs.declared.output_slot.OutputSlot.{OutputSlot}

module _ {L F : Type 0} (g : Ghosts F) (h : LayerGhosts L) where
  -- another layer that writes under the same keys
  same_writes : (layer later : L) (own : ℕ) → ((key : ℕ) → h.keys later key ≡ h.keys layer key) → WritesUnderOne h layer own →
      WritesUnderOne h later own
  same_writes layer later own same w key e = w key (sym (same key) ∙ e)

  rows_kept : (rows later : List (OutputSlot (Filtered L F))) → EachBecomes (SameKeys g h) rows later →
      Every (λ (row : OutputSlot (Filtered L F)). WritesUnderOne h row.output.layer row.key.0) rows →
      Every (λ (row : OutputSlot (Filtered L F)). WritesUnderOne h row.output.layer row.key.0) later
  rows_kept [] [] w k = tt
  rows_kept [] (l ∷ ls) w k = absurd w
  rows_kept (r ∷ rs) [] w k = absurd w
  rows_kept (r ∷ rs) (l ∷ ls) w k =
      let own = subst (λ (key : OutputKey). WritesUnderOne h r.output.layer key.0) (sym w.0.0) k.0 in
      (same_writes r.output.layer l.output.layer l.key.0 w.0.1 own, rows_kept rs ls w.1 k.1)

  same_keys : (s t : StackValue (Filtered L F)) → t.rows ≡ s.rows → EachBecomes (SameKeys g h) s.rows t.rows
  same_keys s t e = subst (EachBecomes (SameKeys g h) s.rows) (sym e) (keys_put g h s.rows)

  rows_of : (s t : StackValue (Filtered L F)) → t ≡ s → t.rows ≡ s.rows
  rows_of s t e = ap (λ (v : StackValue (Filtered L F)). v.rows) e

  own_keys : (rows later : List (OutputSlot (Filtered L F))) → EachBecomes (SameKeys g h) rows later →
      map (λ (row : OutputSlot (Filtered L F)). row.key.0) later ≡ map (λ (row : OutputSlot (Filtered L F)). row.key.0) rows
  own_keys [] [] w = refl
  own_keys [] (l ∷ ls) w = absurd w
  own_keys (r ∷ rs) [] w = absurd w
  own_keys (r ∷ rs) (l ∷ ls) w = ap (λ (key : OutputKey). key.0 ∷ map (λ (row : OutputSlot (Filtered L F)). row.key.0) ls) w.0.0 ∙
      ap (λ keys. r.key.0 ∷ keys) (own_keys rs ls w.1)

  -- what a call leaves where its rows' keys stay
  stays : (s t : StackValue (Filtered L F)) → EachBecomes (SameKeys g h) s.rows t.rows → (keys_in t ≡ keys_in s) ×
      (LayersKeepToKeys h s → LayersKeepToKeys h t)
  stays s t w = (own_keys s.rows t.rows w, rows_kept s.rows t.rows w)

  pub calls_kept : CallsKeepToKeys g h
  calls_kept s (DispatchRegistered dispatch) r t m = stays s t (dispatch_keeps g h dispatch s t m).keys
  calls_kept s (CallsiteRegistered n) r t m = stays s t (same_keys s t (rows_of (record s { interest_cache = t.interest_cache }) t m.1.1))
  calls_kept s (Asked n at) r t m = stays s t (question_keeps g h (is_refused s n) n at s t m.0).keys
  calls_kept s HintAsked r t m = stays s t (same_keys s t (rows_of (record s { hint = r }) t m.1))
  calls_kept s (SpanMade a at) r t m = stays s t (span_keeps g h a at s t r m).keys
  calls_kept s (Recorded id values at) r t m = stays s t (record_keeps g h id values at s t r m).keys
  calls_kept s (FollowsRecorded id follows at) r t m = stays s t (follows_keeps g h id follows at s t r m).keys
  calls_kept s (EventAsked e at) r t m = stays s t (same_keys s t (rows_of s t m.1))
  calls_kept s (EventDispatched e at) r t m = stays s t (event_keeps g h e at s t r m).keys
  calls_kept s (Entered id at) r t m = stays s t (enter_keeps g h id at s t r m).keys
  calls_kept s (Exited id at) r t m = stays s t (exit_keeps g h id at s t m).keys
  calls_kept s (Cloned id at) r t m = stays s t (clone_keeps g h id s t r m).keys
  calls_kept s (Dropped id at) r t m = stays s t (close_keeps g h id at s t m.0 m.1).keys
  calls_kept s (CloseTried id at) r t m = stays s t (close_keeps g h id at s t r m).keys
  calls_kept s (CurrentAsked at) r t m = stays s t (same_keys s t (rows_of s t m.1))

  new_row : (x : RegistryValue) (output : Output (Filtered L F)) (row : OutputSlot (Filtered L F)) → RowOf h x output row →
      WritesUnderOne h output.output.layer output.key.0 → WritesUnderOne h row.output.layer row.key.0
  new_row x output row made w =
      let key : row.key ≡ output.key = ap (λ (r : OutputSlot (Filtered L F)). r.key) made.2 in
      let own = subst (λ (k : OutputKey). WritesUnderOne h output.output.layer k.0) (sym key) w in
      same_writes output.output.layer row.output.layer row.key.0 (h.keyed output.output.layer (Attached (more_filters 1 x)) row.output.layer
      made.0) own

  new_rows : (x : RegistryValue) (outputs : List (Output (Filtered L F))) (rows : List (OutputSlot (Filtered L F))) →
      RowsFrom h x outputs rows → Every (λ (output : Output (Filtered L F)). WritesUnderOne h output.output.layer output.key.0) outputs →
      Every (λ (row : OutputSlot (Filtered L F)). WritesUnderOne h row.output.layer row.key.0) rows
  new_rows x [] [] made w = tt
  new_rows x [] (row ∷ rows) made w = absurd made
  new_rows x (o ∷ os) [] made w = absurd made
  new_rows x (o ∷ os) (row ∷ rows) made w =
      (new_row x o row made.0 w.0, new_rows (more_filters (suc (h.filters o.output.layer)) x) os rows made.1 w.1)

  pub new_kept : NewKeepsToKeys g h
  new_kept outputs s new w = new_rows new_registry outputs s.rows new.0 w

  apart : (own key : ℕ) → (key == own) ≡ false → key ≡ own → ⊥
  apart own key e same = grind (arith, nat_tests, e, same)

  elsewhere : (b : Bool) → (b ≡ true → ⊥) → b ≡ false
  elsewhere true f = absurd (f refl)
  elsewhere false f = refl

  -- what such a layer writes is under the output's key
  own_alone : (layer : L) (own : ℕ) (x y : RegistryValue) → WritesUnderOne h layer own → SameButKeys (h.keys layer) x y →
      SameButKeys (λ key. key == own) x y
  own_alone layer own x y w same =
      (same.0, λ key none. same.1 key (elsewhere (h.keys layer key) (λ writes. apart own key none (w key writes))))

  if_own : (b : Bool) (layer : L) (own : ℕ) (n : View → RegistryValue → Notice) (v : View) (y : RegistryValue) (later : L) →
      WritesUnderOne h layer own → (h.told layer (n v y) later → SameButKeys (h.keys layer) v.registry y) → TellsIf h b layer n v y later →
      SameButKeys (λ key. key == own) v.registry y
  if_own true layer own n v y later w f told = own_alone layer own v.registry y w (f told)
  if_own false layer own n v y later w f told = keys_equal (λ key. key == own) v.registry y told.1

  hears_own : (b : Bool) (id : ℕ) (call : View → Hook) (v : View) (row : OutputSlot (Filtered L F)) (y : RegistryValue)
      (later : OutputSlot (Filtered L F)) → WritesUnderOne h row.output.layer row.key.0 → HearsIf g h b id call v row y later →
      WritesOwn row v.registry y
  hears_own true id call v row y later w told = own_alone row.output.layer row.key.0 v.registry y w
      (h.aside row.output.layer (Spanned id call v y) later.output.layer told.0)
  hears_own false id call v row y later w told = keys_equal (λ key. key == row.key.0) v.registry y told.1

  span_own : (call : View → Hook) (id : ℕ) (at : At) (x : RegistryValue) (row : OutputSlot (Filtered L F)) (y : RegistryValue)
      (later : OutputSlot (Filtered L F)) → WritesUnderOne h row.output.layer row.key.0 → TellsSpan g h call id at x row y later →
      WritesOwn row x y
  span_own call id at x row y later w told = hears_own (sees x id row) id call (view_of at x row) row y later w told

  made_own : (call : View → Hook) (id : ℕ) (at : At) (x : RegistryValue) (row : OutputSlot (Filtered L F)) (y : RegistryValue)
      (later : OutputSlot (Filtered L F)) → WritesUnderOne h row.output.layer row.key.0 → TellsMade g h call id at x row y later →
      WritesOwn row x y
  made_own call id at x row y later w told = span_own call id at x (marked (sees x id row) row) y later w told

  follows_own : (id follows : ℕ) (at : At) (x : RegistryValue) (row : OutputSlot (Filtered L F)) (y : RegistryValue)
      (later : OutputSlot (Filtered L F)) → WritesUnderOne h row.output.layer row.key.0 → TellsFollows g h id follows at x row y later →
      WritesOwn row x y
  follows_own id follows at x row y later w told =
      let v = view_of at x row in
      if_own (sees x id row && sees x follows row) row.output.layer row.key.0 (Followed id follows) v y later.output.layer w
      (h.aside row.output.layer (Followed id follows v y) later.output.layer) told.0

  event_own : (e : PlainEvent) (at : At) (x : RegistryValue) (row : OutputSlot (Filtered L F)) (y : RegistryValue)
      (later : OutputSlot (Filtered L F)) → WritesUnderOne h row.output.layer row.key.0 → TellsEvent h e at x row y later →
      WritesOwn row x y
  event_own e at x row y later w told =
      let v = view_of at x row in
      if_own row.told row.output.layer row.key.0 (Happened e) v y later.output.layer w
      (h.aside row.output.layer (Happened e v y) later.output.layer) told.0

  pub turns_kept : TurnsKeepToKeys g h
  turns_kept = record { made = made_own; spanned = span_own; followed = follows_own; happened = event_own }
