-- Calls of a tree keep the numbers of its filters, and leave its layers consistent.
use Rattle.std.specs.Prelude.{◌≡◌, ◌≤◌, ℕ, Bool, true, false, List, [], ◌∷◌, Option, Some, None, Result, Ok, Err, refl}
use Rattle.std.proofs.Common.{◌∙◌, sym, ap, subst}
use Rattle.tracing_core_moments.specs.declared.at.At.{At}
use Rattle.tracing_core_fields.specs.requests.Calls.{Call, ReplyTo, DispatchRegistered, CallsiteRegistered, Asked, HintAsked, SpanMade}
use Rattle.tracing_core_fields.specs.requests.Calls.{Recorded, FollowsRecorded, EventAsked, EventDispatched, Entered, Exited, Cloned}
use Rattle.tracing_core_fields.specs.requests.Calls.{Dropped, CloseTried, CurrentAsked}
use Rattle.tracing_core_fields.specs.requests.Refusals.{or_same}
use Rattle.tracing_core_fields.specs.declared.requests.interest.InterestInner.TheVariants.{Sometimes, Always}
use Rattle.tracing_core_fields.specs.PlainMetadata.{PlainMetadata}
use Rattle.tracing_core_fields.specs.requests.PlainRequests.{PlainAttributes, explicit_parent}
use Rattle.tracing_core_fields.specs.declared.requests.refusal.RequestError.{RequestError}
use Rattle.tracing_core_fields.specs.declared.requests.refusal.RequestError.TheVariants.{UnknownParent}
use Rattle.tracing_core_fields.specs.requests.Steady.{Agrees, InterestFits, SameWord}
use Rattle.span_registry_layers_store.specs.RegistryCalls.{GivesUnless, clone_refusal, close_refusal, open_refusal, span_refusal}
use Rattle.span_registry_layers_store.specs.SlotIndependence.{SameButSlots, ids_of}
use Rattle.span_registry_layers_store.specs.Registries.{RegistryValue, closing_in, knows, under, with_entry, with_handle, with_span}
use Rattle.span_registry_layers_store.specs.Registries.{without_entry, without_handle}
use Rattle.span_registry_layers_layers.specs.Combined.{same_word}
use Rattle.span_registry_layers_layers.specs.Honesty.{One}
use Rattle.span_registry_layers_layers.specs.FilterViews as looks
use Rattle.span_registry_layers_layers.specs.Notices.{Dispatched, Followed, Happened, Notice, Spanned}
use Rattle.span_registry_layers_layers.specs.FilterNumbers.{AreNumbers}
use Rattle.span_registry_layers_layers.specs.Singles.{both_one}
use Rattle.span_registry_layers_layers.specs.Trees.{AnswersOf, AsksSpan, ClosesEach, CloseUnless, Closes, DispatchTold, IsAttached}
use Rattle.span_registry_layers_layers.specs.Trees.{IsDropped, LayersTold, Made, MakesSpan, Moves, NewSpanGives, StayAttached, TellsEvent}
use Rattle.span_registry_layers_layers.specs.Trees.{Where, WhereTaken, over, whole}
use Rattle.span_registry_layers_layers.specs.declared.layer.Layer.{Ghosts}
use Rattle.span_registry_layers_layers.specs.declared.layer.layered.Layered.{Layered}

given_filters : {A : Type 0} (refusal : Option RequestError) (x : RegistryValue) (answer : A) (left : RegistryValue)
    (r : Result A RequestError) (y : RegistryValue) → left.filters ≡ x.filters → GivesUnless refusal x answer left r y →
    y.filters ≡ x.filters
given_filters (Some refusal) x answer left r y same w = ap (λ (v : RegistryValue). v.filters) w.1
given_filters None x answer left (Ok given) y same w = ap (λ (v : RegistryValue). v.filters) w.1 ∙ same
given_filters None x answer left (Err e) y same w = ap (λ (v : RegistryValue). v.filters) w.1

kept_filters : (refusal : Option RequestError) (x y : RegistryValue) → y.filters ≡ x.filters → (or_same refusal x y).filters ≡ x.filters
kept_filters None x y e = e
kept_filters (Some refusal) x y e = refl

module _ {L : Type 0} (g : Ghosts L) where
  -- the layers are consistent, and veto nothing
  abbrev pub Wants : L → Type 0
  Wants l = g.honest l × ((m : PlainMetadata) → g.says l m Always)

  -- an attached tree of such layers is consistent
  abbrev pub IsSteady : Layered L RegistryValue → Type 0
  IsSteady s = Wants s.layer × IsAttached g s

  -- the numbers stay, and what is consistent stays so
  abbrev Reaches : L → L → Type 0
  Reaches l m = (g.numbers m ≡ g.numbers l) × (Wants l → Wants m)

  abbrev Moved : Layered L RegistryValue → Layered L RegistryValue → Type 0
  Moved s t = (t.inner.filters ≡ s.inner.filters) × Reaches s.layer t.layer

  reaches_self : (l : L) → Reaches l l
  reaches_self l = (refl, λ w. w)

  reaches_then : (l m n : L) → Reaches l m → Reaches m n → Reaches l n
  reaches_then l m n a b = (b.0 ∙ a.0, λ w. b.1 (a.1 w))

  reaches_told : (n : Notice) (l m : L) → (g.told l n m → g.numbers m ≡ g.numbers l) → g.told l n m → Reaches l m
  reaches_told n l m f t = (f t, λ w. let kept = g.stays l n m t w.0 in (kept.0, λ d. kept.1.onward d Always (w.1 d)))

  none : (s t : Layered L RegistryValue) → t ≡ s → Moved s t
  none s t e = subst (Moved s) (sym e) (refl, reaches_self s.layer)

  -- what is written is slots alone, so the registry has as many filters
  same_filters : (x y : RegistryValue) → SameButSlots x y → y.filters ≡ x.filters
  same_filters x y same = ap (λ (v : RegistryValue). v.filters) same

  told : (n : RegistryValue → Notice) (x : RegistryValue) (s t : Layered L RegistryValue) → x.filters ≡ s.inner.filters →
      (g.told s.layer (n t.inner) t.layer → g.numbers t.layer ≡ g.numbers s.layer) →
      (g.told s.layer (n t.inner) t.layer → SameButSlots x t.inner) → LayersTold g n (over x s) t → Moved s t
  told n x s t same f aside w = (same_filters x t.inner (aside w) ∙ same, reaches_told (n t.inner) s.layer t.layer f w)

  hook : (id : ℕ) (call : looks.View → looks.Hook) (at : At) (x : RegistryValue) (s t : Layered L RegistryValue) →
      x.filters ≡ s.inner.filters → LayersTold g (Spanned id call (whole at x)) (over x s) t → Moved s t
  hook id call at x s t same w =
      told (Spanned id call (whole at x)) x s t same (g.numbered s.layer (Spanned id call (whole at x) t.inner) t.layer)
      (λ heard. (g.aside s.layer (Spanned id call (whole at x) t.inner) t.layer heard).0) w

  dispatched : (handle : Option ℕ) (s t : Layered L RegistryValue) → DispatchTold g handle s t → Moved s t
  dispatched handle s t w = (
    ap (λ (v : Layered L RegistryValue). v.inner.filters) w.1,
    reaches_told (Dispatched handle) s.layer t.layer
        (g.numbered s.layer (Dispatched handle) t.layer) w.0,
  )

  taken : {A : Type 0} (r : Result A RequestError) (s t : Layered L RegistryValue) (leaves : Layered L RegistryValue → Type 0) →
      (leaves t → Moved s t) → WhereTaken r s leaves t → Moved s t
  taken (Ok done) s t leaves f w = f w
  taken (Err e) s t leaves f w = none s t w

  each_closes : (ids : List ℕ) (at : At) (x : RegistryValue) (layer : L) (y : RegistryValue) (later : L) →
      ClosesEach g ids at x layer y later → (y.filters ≡ x.filters) × Reaches layer later
  each_closes [] at x layer y later w = (ap (λ (v : RegistryValue). v.filters) w.0, subst (Reaches layer) (sym w.1) (reaches_self layer))
  each_closes (id ∷ ids) at x layer y later (own, z, heard, gone) =
      let rest = each_closes ids at gone.0 own y later gone.2 in
      let closed = Spanned id (looks.Closed id) (whole at x) z in
      let same = same_filters x z (g.aside layer closed own heard).0 in (
        rest.0 ∙ ap (λ (v : RegistryValue). v.filters) gone.1.4 ∙
            same,
        reaches_then layer own later (reaches_told closed layer own (g.numbered layer closed own) heard) rest.1,
      )

  closes : (at : At) (s t : Layered L RegistryValue) → Closes g at s t → Moved s t
  closes at s t w = each_closes (ids_of (closing_in s.inner)) at s.inner s.layer t.inner t.layer w.0

  close_unless : (refusal : Option RequestError) (id : ℕ) (at : At) (s : Layered L RegistryValue) (r : Bool) (t : Layered L RegistryValue) →
      CloseUnless g refusal id at s r t → Moved s t
  close_unless None id at s r t w = closes at (over (without_handle s.inner id) s) t w.1
  close_unless (Some refusal) id at s r t w = none s t w.1

  made : (a : PlainAttributes) (at : At) (s : Layered L RegistryValue) (x : RegistryValue) (given : Result ℕ RequestError)
      (r : Result (Option ℕ) RequestError) (t : Layered L RegistryValue) → x.filters ≡ s.inner.filters → Made g a at s x given r t →
      Moved s t
  made a at s x (Ok id) r t e w = hook id (looks.SpanMade a id) at x s t e w.1
  made a at s x (Err refusal) r t e w = none s t w.1

  makes : (a : PlainAttributes) (at : At) (verdicts : List Bool) (s : Layered L RegistryValue) (r : Result (Option ℕ) RequestError)
      (t : Layered L RegistryValue) → MakesSpan g a at verdicts s r t → Moved s t
  makes a at verdicts s r t w =
      made a at s w.1 w.0 r t (given_filters (span_refusal s.inner a.parent) s.inner s.inner.next_id
      (with_span s.inner a.metadata (under s.inner at.lane a.parent) verdicts) w.0 w.1 refl w.2) w.3

  new_span : (a : PlainAttributes) (at : At) (s : Layered L RegistryValue) (r : Result (Option ℕ) RequestError)
      (t : Layered L RegistryValue) → NewSpanGives g a at s r t → Moved s t
  new_span a at s r t w = known (knows s.inner (explicit_parent a.parent)) w
    where
      some : (verdicts : List Bool) (b : Bool) → Where b (MakesSpan g a at verdicts s r t) (IsDropped g s r t) → Moved s t
      some verdicts true q = makes a at verdicts s r t q
      some verdicts false q = none s t q.1

      asked : (b : Bool) → Where b (AsksSpan g a at s r t) (IsDropped g s r t) → Moved s t
      asked true k = some k.0 k.1 k.3
      asked false k = none s t k.1

      known : (b : Bool) → Where b ((p : Bool) × g.answers s.layer a.metadata (whole at s.inner) p ×
          Where p (AsksSpan g a at s r t) (IsDropped g s r t)) ((r ≡ Err UnknownParent) × (t ≡ s)) → Moved s t
      known true k = asked k.0 k.2
      known false k = none s t k.1

  moved : (s : Layered L RegistryValue) (c : Call) (r : ReplyTo c) (t : Layered L RegistryValue) → Moves g s c r t → IsAttached g s →
      Moved s t
  moved s (DispatchRegistered dispatch) r t w attached = dispatched dispatch s t w
  moved s (CallsiteRegistered m) r t w attached = none s t w.1
  moved s (Asked m at) r t w attached = none s t w.1
  moved s HintAsked r t w attached = none s t w.1
  moved s (SpanMade a at) r t w attached = new_span a at s r t (w attached)
  moved s (Recorded id values at) r t w attached =
      taken r s t (LayersTold g (Spanned id (looks.Recorded id values) (whole at s.inner)) s)
      (hook id (looks.Recorded id values) at s.inner s t refl) w.1
  moved s (FollowsRecorded id follows at) r t w attached =
      let followed = Followed id follows (whole at s.inner) in
      taken r s t (LayersTold g followed s) (told followed s.inner s t refl (g.numbered s.layer (followed t.inner) t.layer)
      (λ heard. (g.aside s.layer (followed t.inner) t.layer heard).0)) w.1
  moved s (EventAsked e at) r t w attached = none s t w.1
  moved s (EventDispatched e at) r t w attached = known (knows s.inner (explicit_parent e.parent)) w
    where
      heard : (b : Bool) → Where b (LayersTold g (Happened e (whole at s.inner)) s t) (t ≡ s) → Moved s t
      heard true k = let happened = Happened e (whole at s.inner) in
          told happened s.inner s t refl (g.numbered s.layer (happened t.inner) t.layer)
          (λ heard. (g.aside s.layer (happened t.inner) t.layer heard).0) k
      heard false k = none s t k

      known : (b : Bool) → Where b ((r ≡ Ok tt) × TellsEvent g e at s t) ((r ≡ Err UnknownParent) × (t ≡ s)) → Moved s t
      known true k = heard k.1.0 k.1.2
      known false k = none s t k.1
  moved s (Entered id at) r t w attached =
      taken r s t (LayersTold g (Spanned id (looks.Entered id) (whole at w.0)) (over w.0 s))
      (hook id (looks.Entered id) at w.0 s t (given_filters (open_refusal s.inner id) s.inner tt (with_entry s.inner at.lane id) r w.0 refl
      w.1)) w.2
  moved s (Exited id at) r t w attached =
      let x = without_entry s.inner at.lane id in
      let gone = hook id (looks.Exited id) at x s w.0 refl w.1 in
      let closed = closes at w.0 t w.2 in
      (closed.0 ∙ gone.0, reaches_then s.layer w.0.layer t.layer gone.1 closed.1)
  moved s (Cloned id at) r t w attached =
      let kept = kept_filters (clone_refusal s.inner id) s.inner (with_handle s.inner id) refl in (
        ap (λ (p : Result ℕ RequestError × RegistryValue). p.1.filters) w.0 ∙
            kept,
        subst (λ (v : Layered L RegistryValue). Reaches s.layer v.layer) (sym w.1) (reaches_self s.layer),
      )
  moved s (Dropped id at) r t w attached = close_unless (close_refusal s.inner id) id at s w.0 t w.1
  moved s (CloseTried id at) r t w attached = close_unless (close_refusal s.inner id) id at s r t w
  moved s (CurrentAsked at) r t w attached = none s t w.1

  attached_still : (s t : Layered L RegistryValue) → Moved s t → IsAttached g s → IsAttached g t
  attached_still s t w attached =
      subst (λ (n : ℕ). AreNumbers n (g.numbers t.layer) × (n ≤ 64)) (sym w.0)
      (subst (λ (ns : List ℕ). AreNumbers s.inner.filters ns × (s.inner.filters ≤ 64)) (sym w.1.0) attached)

  pub stay_attached : StayAttached g
  stay_attached s c r t w attached = let there = moved s c r t w attached in (there.1.0, there.0, attached_still s t there attached)

  pub tree_stays : (s : Layered L RegistryValue) (c : Call) (r : ReplyTo c) (t : Layered L RegistryValue) → Moves g s c r t → IsSteady s →
      IsSteady t × SameWord (λ m k. k ≡ Sometimes) (λ m k. k ≡ Sometimes) None None
  tree_stays s c r t w k = let there = moved s c r t w k.1 in
      ((there.1.1 k.0, attached_still s t there k.1), same_word (λ m j. j ≡ Sometimes) None)

  pub tree_fair : (s : Layered L RegistryValue) → Agrees (AnswersOf g s) (λ m k. k ≡ Sometimes) None
  tree_fair s = record { interest = λ m at b k real a e. subst (λ j. InterestFits j b) (sym e) tt; below = λ m at b real a. tt }

  vetoes_nothing : (l : L) (m : PlainMetadata) (v : looks.View) → Wants l → One (g.answers l m v)
  vetoes_nothing l m v w a b p q = (g.fair l w.0).interest m v a Always p (w.1 m) ∙ sym ((g.fair l w.0).interest m v b Always q (w.1 m))

  pub tree_single : (s : Layered L RegistryValue) (m : PlainMetadata) (at : At) (a b : Bool) → IsSteady s → AnswersOf g s m at a →
      AnswersOf g s m at b → a ≡ b
  tree_single s m at a b k p q =
      both_one (g.answers s.layer m (whole at s.inner)) (λ some. (verdicts : List Bool) × g.kept s.layer m (whole at s.inner) true verdicts
      some) (vetoes_nothing s.layer m (whole at s.inner) k.0)
      (λ c d x y. g.once s.layer k.0.0 m (whole at s.inner) true x.0 y.0 c d x.1 y.1) a b (p k.1) (q k.1)
