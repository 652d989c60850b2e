-- Why outputs have no say in what calls leave of the registry.
use Rattle.std.proofs.Common.{◌≡◌, ℕ, Bool, true, false, not, List, Option, Some, None, Result, Ok, Err, refl, sym, ap, ◌∙◌, subst}
use Rattle.tracing_core_moments.specs.declared.at.At.{At}
use Rattle.tracing_core_fields.specs.requests.Calls.{Call, ReplyTo, DispatchRegistered, CallsiteRegistered, Asked, HintAsked, SpanMade}
use Rattle.tracing_core_fields.specs.requests.Calls.{Recorded, FollowsRecorded, EventAsked, EventDispatched, Entered, Exited, Cloned}
use Rattle.tracing_core_fields.specs.requests.Calls.{Dropped, CloseTried, CurrentAsked}
use Rattle.tracing_core_fields.specs.requests.Refusals.{or_refused, or_same}
use Rattle.tracing_core_fields.specs.requests.PlainRequests.{PlainAttributes, PlainEvent, explicit_parent}
use Rattle.tracing_core_fields.specs.declared.requests.refusal.RequestError.{RequestError}
use Rattle.tracing_core_fields.specs.declared.requests.refusal.RequestError.TheVariants.{UnknownParent}
use Rattle.span_registry_layers_store.specs.SlotIndependence.{SameButSlots}
use Rattle.span_registry_layers_store.specs.RegistryCalls.{EntryGives, GivesUnless, close_refusal, first, is_closed, open_refusal, when}
use Rattle.span_registry_layers_store.specs.Registries.{RegistryValue, knows, swept, without_entry, without_handle}
use Rattle.span_registry_layers_store.specs.Verdicts.{all_pass}
use Rattle.span_registry_layers_store.proofs.SlotIndependence.{aside_open}
use Rattle.span_registry_layers_layers.specs.FilterViews as looks
use Rattle.span_registry_layers_layers.specs.declared.filter.Filter.{Ghosts}
use Rattle.span_registry_layers_layers.specs.declared.filtered.Filtered.{Filtered}
use Rattle.span_registry_layers_layers.specs.declared.layer.Layer.{Ghosts as LayerGhosts}
use Rattle.span_registry_layers.specs.RegistryIndependence.{AloneGives, RegistryStandsAlone, SpanAlone, UnwrittenStandsAlone, event_answer}
use Rattle.span_registry_layers.specs.RegistryIndependence.{says_closed}
use Rattle.span_registry_layers.specs.Calls.{CloseUnless, MakesSpan, SpanKnown, SpanUnless, SpanWhere, WhereTaken, over}
use Rattle.span_registry_layers.specs.SpanNotices.{TellsFollows, TellsMade, TellsSpan}
use Rattle.span_registry_layers.specs.Moves.{Moves}
use Rattle.span_registry_layers.specs.OutputSlots.{TellsEvent}
use Rattle.span_registry_layers.specs.Questions.{question_alike}
use Rattle.span_registry_layers.specs.Stacks.{RowsInTurn, StackValue, TellsUnless, WhereKnown, is_refused}
use Rattle.span_registry_layers.specs.declared.output_slot.OutputSlot.{OutputSlot}
use Rattle.span_registry_layers.proofs.RegistryAfterNotices.{IsKept, all_kept, closes_left, event_left, follows_left, made_left, rows_left}
use Rattle.span_registry_layers.proofs.RegistryAfterNotices.{slots_kept, span_left}

-- a call that changes nothing, or rows alone
same : {O : Type 0} (s t : StackValue O) → t ≡ s → t.registry ≡ s.registry
same {O = O} s t e = ap (λ (v : StackValue O). v.registry) e

-- what is refused leaves the registry
refused : {A : Type 0} (o : Option RequestError) (x left y : RegistryValue) (answer : A) (e : RequestError) →
    GivesUnless o x answer left (Err e) y → y ≡ x
refused (Some refusal) x left y answer e w = w.1
refused None x left y answer e w = w.1

unknown_parent : (k : Bool) (o : Option RequestError) (x left : RegistryValue) (answer : ℕ) → k ≡ false →
    GivesUnless (first (when (not k) UnknownParent) o) x answer left (Err UnknownParent) x
unknown_parent k o x left answer e = rw e (refl, refl)

module _ {L F : Type 0} (g : Ghosts F) (h : LayerGhosts L) (Alike : RegistryValue → RegistryValue → Type 0) (k : IsKept h Alike) where
  -- what the registry's own call leaves, and the registry as it is then
  abbrev Stands : RegistryValue → (c : Call) → ReplyTo c → RegistryValue → Type 0
  Stands x c r z = (y : RegistryValue) × AloneGives x c r y × Alike y z

  kept : (s t : StackValue (Filtered L F)) → t ≡ s → Alike s.registry t.registry
  kept s t e = k.equal s.registry t.registry (same s t e)

  taken : {A : Type 0} (R : RegistryValue → OutputSlot (Filtered L F) → RegistryValue → OutputSlot (Filtered L F) → Type 0) →
      ((x : RegistryValue) (row : OutputSlot (Filtered L F)) (y : RegistryValue) (later : OutputSlot (Filtered L F)) → R x row y later →
      Alike x y) →
      (s t : StackValue (Filtered L F)) (r : Result A RequestError) → WhereTaken r s (RowsInTurn R s) t → Alike s.registry t.registry
  taken R f s t (Ok done) w = rows_left g h Alike k R f s.registry s t w
  taken R f s t (Err e) w = kept s t w

  entered : (R : RegistryValue → OutputSlot (Filtered L F) → RegistryValue → OutputSlot (Filtered L F) → Type 0) →
      ((x : RegistryValue) (row : OutputSlot (Filtered L F)) (y : RegistryValue) (later : OutputSlot (Filtered L F)) → R x row y later →
      Alike x y) →
      (id : ℕ) (at : At) (s t : StackValue (Filtered L F)) (r : Result (Unit {0}) RequestError) (x : RegistryValue) →
      EntryGives s.registry at.lane id r x → WhereTaken r s (RowsInTurn R (over x s)) t → Alike x t.registry
  entered R f id at s t (Ok done) x given w = rows_left g h Alike k R f x s t w
  entered R f id at s t (Err e) x given w =
      k.equal x t.registry (same s t w ∙ sym (refused (open_refusal s.registry id) s.registry _ x _ e given))

  event_alone : (b d : Bool) (e : PlainEvent) (at : At) (s t : StackValue (Filtered L F)) (r : Result (Unit {0}) RequestError) →
      WhereKnown b s (TellsUnless g h d e at s) r t → (r ≡ event_answer b) × Alike s.registry t.registry
  event_alone true true e at s t r w = (w.0, k.equal s.registry t.registry (same _ t w.1))
  event_alone true false e at s t r (done, (asked, marks, told)) = (
    done,
    subst (λ x. Alike x t.registry) (ap (λ (v : StackValue (Filtered L F)). v.registry) marks.1)
        (rows_left g h Alike k (TellsEvent h e at) (event_left g h Alike k e at) asked.registry asked t told),
  )
  event_alone false d e at s t r w = (w.0, kept s t w.1)

  abbrev SpanStands : PlainAttributes → At → StackValue (Filtered L F) → Result (Option ℕ) RequestError → StackValue (Filtered L F) → Type 0
  SpanStands a at s r t = (y : RegistryValue) × SpanAlone s.registry a at.lane r y × Alike y t.registry

  made_alone : (a : PlainAttributes) (at : At) (verdicts : List Bool) (s t : StackValue (Filtered L F))
      (r : Result (Option ℕ) RequestError) → MakesSpan g h a at verdicts s r t → SpanStands a at s r t
  made_alone a at verdicts s t r (Ok id, x, given, made) = (
    x,
    subst (λ q. SpanAlone s.registry a at.lane q x) (sym made.0) (verdicts, given),
    rows_left g h Alike k (TellsMade g h (looks.SpanMade a id) id at) (made_left g h Alike k (looks.SpanMade a id) id at) x s t made.1,
  )
  made_alone a at verdicts s t r (Err e, x, given, made) = (
    x,
    subst (λ q. SpanAlone s.registry a at.lane q x) (sym made.0) (verdicts, given),
    k.equal x t.registry (same s t made.1 ∙ sym (refused _ s.registry _ x _ e given)),
  )

  dropped_alone : (a : PlainAttributes) (at : At) (s t : StackValue (Filtered L F)) (r : Result (Option ℕ) RequestError) →
      knows s.registry (explicit_parent a.parent) ≡ true → r ≡ Ok None → t.registry ≡ s.registry → SpanStands a at s r t
  dropped_alone a at s t r known e left = (
    s.registry,
    subst (λ q. SpanAlone s.registry a at.lane q s.registry) (sym e) (known, refl),
    k.equal s.registry t.registry left,
  )

  where_alone : (some : Bool) (a : PlainAttributes) (at : At) (verdicts : List Bool) (s t : StackValue (Filtered L F))
      (r : Result (Option ℕ) RequestError) → knows s.registry (explicit_parent a.parent) ≡ true → SpanWhere g h some a at verdicts s r t →
      SpanStands a at s r t
  where_alone true a at verdicts s t r known w = made_alone a at verdicts s t r w
  where_alone false a at verdicts s t r known w = dropped_alone a at s t r known w.0 (same _ t w.1)

  span_alone : (b d : Bool) (a : PlainAttributes) (at : At) (s t : StackValue (Filtered L F)) (r : Result (Option ℕ) RequestError) →
      knows s.registry (explicit_parent a.parent) ≡ b → SpanKnown g h b s (SpanUnless g h d a at s) r t → SpanStands a at s r t
  span_alone true true a at s t r known w = dropped_alone a at s t r known w.0 (same _ t w.1)
  span_alone true false a at s t r known w = where_alone w.1 a at w.0 s t r known w.3
  span_alone false d a at s t r known w =
      let gives = unknown_parent (knows s.registry (explicit_parent a.parent)) _ s.registry _ _ known in
      (s.registry, subst (λ q. SpanAlone s.registry a at.lane q s.registry) (sym w.0) (all_pass, gives), kept s t w.1)

  close_alone : (refusal : Option RequestError) (id : ℕ) (at : At) (s t : StackValue (Filtered L F)) (r : Bool) →
      CloseUnless g h refusal id at s r t →
      let z = swept (without_handle s.registry id) in (r ≡ says_closed (or_refused refusal (is_closed z id))) ×
      Alike (or_same refusal s.registry z) t.registry
  close_alone None id at s t r w =
      let z = swept (without_handle s.registry id) in
      let left = closes_left g h Alike k at (over (without_handle s.registry id) s) t w.1 in
      (w.0 ∙ ap not (aside_open z t.registry id (k.aside z t.registry left)), left)
  close_alone (Some refusal) id at s t r w = (w.0, kept s t w.1)

  pub stands_alone : (s : StackValue (Filtered L F)) (c : Call) (r : ReplyTo c) (t : StackValue (Filtered L F)) → Moves g h s c r t →
      Stands s.registry c r t.registry
  stands_alone s (DispatchRegistered dispatch) r t m =
      (s.registry, refl, k.equal s.registry t.registry (ap (λ (v : StackValue (Filtered L F)). v.registry) m.1))
  stands_alone s (CallsiteRegistered n) r t m = (s.registry, refl, k.equal s.registry t.registry (same _ t m.1.1))
  stands_alone s (Asked n at) r t m = (
    s.registry,
    refl,
    k.equal s.registry t.registry
        (ap (λ (v : StackValue (Filtered L F)). v.registry) (question_alike g (is_refused s n) n at s t m.0)),
  )
  stands_alone s HintAsked r t m = (s.registry, refl, k.equal s.registry t.registry (same _ t m.1))
  stands_alone s (SpanMade a at) r t m = span_alone (knows s.registry (explicit_parent a.parent)) (is_refused s a.metadata) a at s t r refl
      m
  stands_alone s (Recorded id values at) r t m = (
    s.registry,
    (m.0, refl),
    taken (TellsSpan g h (looks.Recorded id values) id at)
        (span_left g h Alike k (looks.Recorded id values) id at) s t r m.1,
  )
  stands_alone s (FollowsRecorded id follows at) r t m =
      (s.registry, (m.0, refl), taken (TellsFollows g h id follows at) (follows_left g h Alike k id follows at) s t r m.1)
  stands_alone s (EventAsked e at) r t m = (s.registry, refl, kept s t m.1)
  stands_alone s (EventDispatched e at) r t m =
      let told = event_alone (knows s.registry (explicit_parent e.parent)) (is_refused s e.metadata) e at s t r m in
      (s.registry, (told.0, refl), told.1)
  stands_alone s (Entered id at) r t m =
      (m.0, m.1, entered (TellsSpan g h (looks.Entered id) id at) (span_left g h Alike k (looks.Entered id) id at) id at s t r m.0 m.1 m.2)
  stands_alone s (Exited id at) r t m =
      let x = without_entry s.registry at.lane id in
      let told = rows_left g h Alike k (TellsSpan g h (looks.Exited id) id at) (span_left g h Alike k (looks.Exited id) id at) x s m.0
      m.1 in (
        swept x,
        refl,
        k.over_one (swept x) (swept m.0.registry) t.registry (k.swept x m.0.registry told)
            (closes_left g h Alike k at m.0 t m.2),
      )
  stands_alone s (Cloned id at) r t m = (t.registry, m.0, k.equal t.registry t.registry refl)
  stands_alone s (Dropped id at) r t m = (_, refl, (close_alone (close_refusal s.registry id) id at s t m.0 m.1).1)
  stands_alone s (CloseTried id at) r t m = let closed = close_alone (close_refusal s.registry id) id at s t r m in
      (_, (closed.0, refl), closed.1)
  stands_alone s (CurrentAsked at) r t m = (s.registry, (m.0, refl), kept s t m.1)

module _ {L F : Type 0} (g : Ghosts F) (h : LayerGhosts L) where
  pub registry_alone : RegistryStandsAlone g h
  registry_alone s c r t m = stands_alone g h SameButSlots (slots_kept h) s c r t m

  pub registry_unwritten : UnwrittenStandsAlone g h
  registry_unwritten idle s c r t m =
      let alone = stands_alone g h (λ x y. y ≡ x) (all_kept h idle) s c r t m in subst (AloneGives s.registry c r) (sym alone.2) alone.1
