-- Why the registry of a tree of layers stays sound.
use Rattle.std.proofs.Common.{◌≡◌, ℕ, Bool, true, false, List, Option, Some, None, Result, Ok, Err, refl, sym, ap, subst}
use Rattle.tracing_core_moments.specs.declared.at.At.{At}
use Rattle.tracing_core_fields.specs.requests.Calls.{DispatchRegistered, CallsiteRegistered, Asked, HintAsked, SpanMade, Recorded}
use Rattle.tracing_core_fields.specs.requests.Calls.{FollowsRecorded, EventAsked, EventDispatched, Entered, Exited, Cloned, Dropped}
use Rattle.tracing_core_fields.specs.requests.Calls.{CloseTried, CurrentAsked}
use Rattle.tracing_core_fields.specs.requests.Refusals.{or_same}
use Rattle.tracing_core_fields.specs.requests.PlainRequests.{PlainAttributes, PlainEvent, explicit_parent}
use Rattle.tracing_core_fields.specs.declared.requests.refusal.RequestError.{RequestError}
use Rattle.tracing_core_fields.specs.declared.requests.refusal.RequestError.TheVariants.{UnknownParent}
use Rattle.span_registry_layers_store.specs.RegistryCalls.{close_refusal}
use Rattle.span_registry_layers_store.specs.Laws.{IsSound}
use Rattle.span_registry_layers_store.specs.SlotIndependence.{SameButSlots}
use Rattle.span_registry_layers_store.specs.Registries.{RegistryValue, knows, swept, without_entry, without_handle}
use Rattle.span_registry_layers_store.proofs.SlotIndependence.{aside_sound, aside_swept, aside_then}
use Rattle.span_registry_layers_store.proofs.RegistrySoundness.{stays_sound}
use Rattle.span_registry_layers_layers.specs.FilterViews as looks
use Rattle.span_registry_layers_layers.specs.Notices.{Followed, Happened, Notice, Spanned}
use Rattle.span_registry_layers_layers.specs.FilterNumbers.{more_filters}
use Rattle.span_registry_layers_layers.specs.Soundness.{AttachedIsSound, TreeStaysSound}
use Rattle.span_registry_layers_layers.specs.Trees.{AsksSpan, CloseUnless, EventGives, IsDropped, LayersTold, MakesSpan, NewSpanGives}
use Rattle.span_registry_layers_layers.specs.Trees.{TellsEvent, Where, WhereTaken, over, whole}
use Rattle.span_registry_layers_layers.specs.declared.layer.Layer.{Ghosts}
use Rattle.span_registry_layers_layers.specs.declared.layer.layered.Layered.{Layered}

-- filters are no part of it
pub grown_sound : (count : ℕ) (x y : RegistryValue) → y ≡ more_filters count x → IsSound x → IsSound y
grown_sound count x y more sound =
    subst IsSound (sym more) (record {
      started = sound.started;
      ordered = sound.ordered;
      below = sound.below;
      all_open = sound.all_open;
      entries = sound.entries;
    })

module _ {L : Type 0} (g : Ghosts L) where
  of_registry : (x : RegistryValue) (t : Layered L RegistryValue) → t.inner ≡ x → IsSound x → IsSound t.inner
  of_registry x t e sound = subst IsSound (sym e) sound

  same_sound : (s t : Layered L RegistryValue) → t ≡ s → IsSound s.inner → IsSound t.inner
  same_sound s t e sound = of_registry s.inner t (ap (λ (v : Layered L RegistryValue). v.inner) e) sound

  -- where the layers write slots alone
  told_sound : (n : RegistryValue → Notice) (x : RegistryValue) (s t : Layered L RegistryValue) →
      (g.told s.layer (n t.inner) t.layer → SameButSlots x t.inner) → LayersTold g n (over x s) t → IsSound x → IsSound t.inner
  told_sound n x s t aside w sound = aside_sound x t.inner (aside w) sound

  hook_aside : (id : ℕ) (call : looks.View → looks.Hook) (at : At) (x : RegistryValue) (s t : Layered L RegistryValue) →
      LayersTold g (Spanned id call (whole at x)) (over x s) t → SameButSlots x t.inner
  hook_aside id call at x s t w = (g.aside s.layer (Spanned id call (whole at x) t.inner) t.layer w).0

  hook_sound : (id : ℕ) (call : looks.View → looks.Hook) (at : At) (x : RegistryValue) (s t : Layered L RegistryValue) →
      LayersTold g (Spanned id call (whole at x)) (over x s) t → IsSound x → IsSound t.inner
  hook_sound id call at x s t w sound = aside_sound x t.inner (hook_aside id call at x s t w) sound

  taken_sound : {A : Type 0} (n : RegistryValue → Notice) (x : RegistryValue) (s t : Layered L RegistryValue) (r : Result A RequestError) →
      (g.told s.layer (n t.inner) t.layer → SameButSlots x t.inner) → WhereTaken r s (LayersTold g n (over x s)) t → IsSound x →
      IsSound s.inner → IsSound t.inner
  taken_sound n x s t (Ok done) aside w sound before = told_sound n x s t aside w sound
  taken_sound n x s t (Err e) aside w sound before = same_sound s t w before

  makes_sound : (a : PlainAttributes) (at : At) (verdicts : List Bool) (s : Layered L RegistryValue) (r : Result (Option ℕ) RequestError)
      (t : Layered L RegistryValue) → MakesSpan g a at verdicts s r t → IsSound s.inner → IsSound t.inner
  makes_sound a at verdicts s r t (Ok id, x, taken, made) sound = hook_sound id (looks.SpanMade a id) at x s t made.1
      ((stays_sound s.inner sound).span a.metadata a.parent at.lane verdicts (Ok id) x taken)
  makes_sound a at verdicts s r t (Err e, x, taken, made) sound = same_sound s t made.1 sound

  span_sound : (a : PlainAttributes) (at : At) (s : Layered L RegistryValue) (r : Result (Option ℕ) RequestError)
      (t : Layered L RegistryValue) → NewSpanGives g a at s r t → IsSound s.inner → IsSound t.inner
  span_sound a at s r t w sound = known (knows s.inner (explicit_parent a.parent)) w
    where
      some : (verdicts : List Bool) (b : Bool) → Where b (MakesSpan g a at verdicts s r t) (IsDropped g s r t) → IsSound t.inner
      some verdicts true q = makes_sound a at verdicts s r t q sound
      some verdicts false q = same_sound s t q.1 sound

      asked : (b : Bool) → Where b (AsksSpan g a at s r t) (IsDropped g s r t) → IsSound t.inner
      asked true k = some k.0 k.1 k.3
      asked false k = same_sound s t k.1 sound

      known : (b : Bool) → Where b ((p : Bool) × g.answers s.layer a.metadata (whole at s.inner) p ×
          Where p (AsksSpan g a at s r t) (IsDropped g s r t)) ((r ≡ Err UnknownParent) × (t ≡ s)) → IsSound t.inner
      known true k = asked k.0 k.2
      known false k = same_sound s t k.1 sound

  event_sound : (e : PlainEvent) (at : At) (s : Layered L RegistryValue) (r : Result (Unit {0}) RequestError)
      (t : Layered L RegistryValue) → EventGives g e at s r t → IsSound s.inner → IsSound t.inner
  event_sound e at s r t w sound = known (knows s.inner (explicit_parent e.parent)) w
    where
      heard : (b : Bool) → Where b (LayersTold g (Happened e (whole at s.inner)) s t) (t ≡ s) → IsSound t.inner
      heard true k = told_sound (Happened e (whole at s.inner)) s.inner s t
          (λ heard. (g.aside s.layer (Happened e (whole at s.inner) t.inner) t.layer heard).0) k sound
      heard false k = same_sound s t k sound

      known : (b : Bool) → Where b ((r ≡ Ok tt) × TellsEvent g e at s t) ((r ≡ Err UnknownParent) × (t ≡ s)) → IsSound t.inner
      known true k = heard k.1.0 k.1.2
      known false k = same_sound s t k.1 sound

  close_sound : (refusal : Option RequestError) (id : ℕ) (at : At) (s : Layered L RegistryValue) (r : Bool) (t : Layered L RegistryValue) →
      close_refusal s.inner id ≡ refusal → CloseUnless g refusal id at s r t → IsSound s.inner → IsSound t.inner
  close_sound None id at s r t e w sound =
      aside_sound (swept (without_handle s.inner id)) t.inner w.1.1
      (subst (λ q. IsSound (or_same q s.inner (swept (without_handle s.inner id)))) e ((stays_sound s.inner sound).close id))
  close_sound (Some refusal) id at s r t e w sound = same_sound s t w.1 sound

  pub tree_sound : TreeStaysSound g
  tree_sound s (DispatchRegistered dispatch) r t m attached sound =
      of_registry s.inner t (ap (λ (v : Layered L RegistryValue). v.inner) m.1) sound
  tree_sound s (CallsiteRegistered n) r t m attached sound = same_sound s t m.1 sound
  tree_sound s (Asked n at) r t m attached sound = same_sound s t m.1 sound
  tree_sound s HintAsked r t m attached sound = same_sound s t m.1 sound
  tree_sound s (SpanMade a at) r t m attached sound = span_sound a at s r t (m attached) sound
  tree_sound s (Recorded id values at) r t m attached sound =
      taken_sound (Spanned id (looks.Recorded id values) (whole at s.inner)) s.inner s t r
      (hook_aside id (looks.Recorded id values) at s.inner s t) m.1 sound sound
  tree_sound s (FollowsRecorded id follows at) r t m attached sound =
      taken_sound (Followed id follows (whole at s.inner)) s.inner s t r
      (λ heard. (g.aside s.layer (Followed id follows (whole at s.inner) t.inner) t.layer heard).0) m.1 sound sound
  tree_sound s (EventAsked e at) r t m attached sound = same_sound s t m.1 sound
  tree_sound s (EventDispatched e at) r t m attached sound = event_sound e at s r t m sound
  tree_sound s (Entered id at) r t m attached sound =
      taken_sound (Spanned id (looks.Entered id) (whole at m.0)) m.0 s t r (hook_aside id (looks.Entered id) at m.0 s t) m.2
      ((stays_sound s.inner sound).entry at.lane id r m.0 m.1) sound
  tree_sound s (Exited id at) r t m attached sound =
      let x = without_entry s.inner at.lane id in
      let gone = hook_aside id (looks.Exited id) at x s m.0 m.1 in
      aside_sound (swept x) t.inner (aside_then (swept x) (swept m.0.inner) t.inner (aside_swept x m.0.inner gone) m.2.1)
      ((stays_sound s.inner sound).exit at.lane id)
  tree_sound s (Cloned id at) r t m attached sound = subst IsSound (sym (ap (λ (p : Result ℕ RequestError × RegistryValue). p.1) m.0))
      ((stays_sound s.inner sound).handle id)
  tree_sound s (Dropped id at) r t m attached sound = close_sound (close_refusal s.inner id) id at s m.0 t refl m.1 sound
  tree_sound s (CloseTried id at) r t m attached sound = close_sound (close_refusal s.inner id) id at s r t refl m sound
  tree_sound s (CurrentAsked at) r t m attached sound = same_sound s t m.1 sound

  pub attached_sound : AttachedIsSound g
  attached_sound layer x s given sound = grown_sound (g.filters layer) x s.inner given.2 sound
