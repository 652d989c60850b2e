-- Each output keeps its place, so each keeps its sink.
use Rattle.std.proofs.Common.{◌≡◌, ℕ, zero, suc, true, List, [], ◌∷◌, length, map, None, is_some, slice_get, refl, ap, sym, ◌∙◌, subst}
use Rattle.tracing_core_moments.specs.declared.at.At.{At}
use Rattle.tracing_core_fields.specs.requests.Calls.{Call, ReplyTo, DispatchRegistered, CallsiteRegistered, Asked, HintAsked, SpanMade}
use Rattle.tracing_core_fields.specs.requests.Calls.{Recorded, FollowsRecorded, EventAsked, EventDispatched, Entered, Exited, Cloned}
use Rattle.tracing_core_fields.specs.requests.Calls.{Dropped, CloseTried, CurrentAsked}
use Rattle.span_registry_layers_layers.specs.declared.filter.Filter.{Ghosts as FilterGhosts}
use Rattle.span_registry_layers_layers.specs.declared.filtered.Filtered.{Filtered}
use Rattle.span_registry_layers_layers.specs.declared.layer.Layer.{Ghosts as LayerGhosts}
use Rattle.span_registry_layers.specs.Moves.{Moves}
use Rattle.span_registry_layers.specs.OutputSlots.{EachBecomes}
use Rattle.span_registry_layers.specs.Stacks.{StackValue, is_refused}
use Rattle.span_registry_layers.specs.Steps.{SameKeys, clone_keeps, close_keeps, dispatch_keeps, enter_keeps, event_keeps, exit_keeps}
use Rattle.span_registry_layers.specs.Steps.{follows_keeps, keys_put, question_keeps, record_keeps, span_keeps}
use Rattle.span_tracing_outputs.specs.SinkLines.{HandsOver, NoLines, TakesEach, cleared_row}
use Rattle.span_tracing_outputs.specs.OutputMachines.{PlainLine}
use Rattle.span_tracing_outputs.specs.StackFollows.{LinedStack}
use Rattle.span_tracing_outputs.specs.TraceStacks.{IsAtRest}
use Rattle.span_tracing_outputs.specs.Turns.{Lined}
use Rattle.span_tracing_outputs.proofs.HandedLines.{none_kept}

same_length : {A B : Type 0} (R : A → B → Type 0) (xs : List A) (ys : List B) → EachBecomes R xs ys → length ys ≡ length xs
same_length R [] [] w = refl
same_length R [] (y ∷ ys) w = absurd w
same_length R (x ∷ xs) [] w = absurd w
same_length R (x ∷ xs) (y ∷ ys) w = ap suc (same_length R xs ys w.1)

length_map : {A B : Type 0} (f : A → B) (xs : List A) → length (map f xs) ≡ length xs
length_map f [] = refl
length_map f (x ∷ xs) = ap suc (length_map f xs)

-- how many there are is seen at the first place where there is none
pub counted : {A : Type 0} (xs : List A) (n : ℕ) → slice_get xs (suc n) ≡ None → is_some (slice_get xs n) ≡ true → length xs ≡ suc n
counted [] n none some = absurd (cc)
counted (x ∷ []) zero none some = refl
counted (x ∷ y ∷ xs) zero none some = absurd (cc)
counted (x ∷ xs) (suc n) none some = ap suc (counted xs n none some)

module _ {L F : Type 0} (g : FilterGhosts F) (h : LayerGhosts L) where
  same_rows : (s t : StackValue (Filtered L F)) → t.rows ≡ s.rows → EachBecomes (SameKeys g h) s.rows t.rows
  same_rows s t e = subst (EachBecomes (SameKeys g h) s.rows) (sym e) (keys_put g h s.rows)

  -- each output keeps its place, and its layer the keys that it writes under
  pub moves_keys : (s : StackValue (Filtered L F)) (c : Call) (r : ReplyTo c) (t : StackValue (Filtered L F)) → Moves g h s c r t →
      EachBecomes (SameKeys g h) s.rows t.rows
  moves_keys s (DispatchRegistered dispatch) r t m = (dispatch_keeps g h dispatch s t m).keys
  moves_keys s (CallsiteRegistered n) r t m = same_rows s t (ap (λ (v : StackValue (Filtered L F)). v.rows) m.1.1)
  moves_keys s (Asked n at) r t m = (question_keeps g h (is_refused s n) n at s t m.0).keys
  moves_keys s HintAsked r t m = same_rows s t (ap (λ (v : StackValue (Filtered L F)). v.rows) m.1)
  moves_keys s (SpanMade a at) r t m = (span_keeps g h a at s t r m).keys
  moves_keys s (Recorded id values at) r t m = (record_keeps g h id values at s t r m).keys
  moves_keys s (FollowsRecorded id follows at) r t m = (follows_keeps g h id follows at s t r m).keys
  moves_keys s (EventAsked e at) r t m = same_rows s t (ap (λ (v : StackValue (Filtered L F)). v.rows) m.1)
  moves_keys s (EventDispatched e at) r t m = (event_keeps g h e at s t r m).keys
  moves_keys s (Entered id at) r t m = (enter_keeps g h id at s t r m).keys
  moves_keys s (Exited id at) r t m = (exit_keeps g h id at s t m).keys
  moves_keys s (Cloned id at) r t m = (clone_keeps g h id s t r m).keys
  moves_keys s (Dropped id at) r t m = (close_keeps g h id at s t m.0 m.1).keys
  moves_keys s (CloseTried id at) r t m = (close_keeps g h id at s t r m).keys
  moves_keys s (CurrentAsked at) r t m = same_rows s t (ap (λ (v : StackValue (Filtered L F)). v.rows) m.1)

  pub moves_length : (s : StackValue (Filtered L F)) (c : Call) (r : ReplyTo c) (t : StackValue (Filtered L F)) → Moves g h s c r t →
      length t.rows ≡ length s.rows
  moves_length s c r t m = same_length (SameKeys g h) s.rows t.rows (moves_keys s c r t m)

-- outputs whose lines are forgotten keep their sinks
pub cleared_rest : {N E F S : Type 0} (s t : LinedStack N E F) (sinks : List S) → length sinks ≡ length s.rows →
    t ≡ record s { rows = map cleared_row s.rows } → IsAtRest t sinks
cleared_rest s t sinks paired is = (
  paired ∙ sym (length_map cleared_row s.rows) ∙ sym (ap (λ (v : LinedStack _ _ _). length v.rows) is),
  subst (λ (v : LinedStack _ _ _). NoLines v.rows) (sym is) (none_kept s.rows),
)

module _ {N E F S : Type 0} (takes : S → At → PlainLine → S → Type 0) (at : At) where
  takes_length : (rows : List (Lined N E F)) (sinks sinks_after : List S) → TakesEach takes at rows sinks sinks_after →
      length sinks_after ≡ length sinks
  takes_length [] [] [] w = refl
  takes_length [] [] (t ∷ ts) w = absurd w
  takes_length [] (k ∷ ks) [] w = absurd w
  takes_length [] (k ∷ ks) (t ∷ ts) w = absurd w
  takes_length (r ∷ rs) [] [] w = absurd w
  takes_length (r ∷ rs) [] (t ∷ ts) w = absurd w
  takes_length (r ∷ rs) (k ∷ ks) [] w = absurd w
  takes_length (r ∷ rs) (k ∷ ks) (t ∷ ts) w = ap suc (takes_length rs ks ts w.1)

  -- as many sinks as outputs are left, and no line
  pub hands_paired : (s : LinedStack N E F) (sinks : List S) (t : LinedStack N E F) (sinks_after : List S) →
      HandsOver takes at s sinks t sinks_after → length sinks ≡ length s.rows → IsAtRest t sinks_after
  hands_paired s sinks t sinks_after over paired = cleared_rest s t sinks_after (takes_length s.rows sinks sinks_after over.0 ∙ paired)
      over.1
