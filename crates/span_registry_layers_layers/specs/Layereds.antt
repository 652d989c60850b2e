-- Two layers as one.
use Rattle.std.specs.Prelude.{◌≡◌, ◌||◌, ◌++◌, ℕ, Bool, true, false, List, max, Option, Some, None, refl}
use Rattle.std.proofs.Common.{ap, ◌∙◌, arith}
use Rattle.tracing_core_fields.specs.declared.requests.interest.InterestInner.TheVariants.{Never, Sometimes, Always}
use Rattle.tracing_core_fields.specs.requests.Interests.{PlainInterest}
use Rattle.tracing_core_fields.specs.PlainMetadata.{PlainMetadata}
use Rattle.tracing_core_fields.specs.requests.Steady.{HintFits, InterestFits, SameWord}
use Rattle.span_registry_layers_store.specs.SlotIndependence.{SameButKeys, keys_then}
use Rattle.span_registry_layers_store.specs.Registries.{RegistryValue}
use Rattle.span_registry_layers_layers.specs.Combined.{Both, SaysOf, joined_fair, joined_word}
use Rattle.span_registry_layers_layers.specs.Honesty.{Fair}
use Rattle.span_registry_layers_layers.specs.FilterViews.{View, seeing}
use Rattle.span_registry_layers_layers.specs.Notices.{AddsFilters, Attached, Called, Dispatched, Notice, WritesUnder}
use Rattle.span_registry_layers_layers.specs.FilterNumbers.{NumbersStay}
use Rattle.span_registry_layers_layers.specs.declared.layer.Layer.{Ghosts}
use Rattle.span_registry_layers_layers.specs.declared.layer.layered.Layered.{Layered}

-- the outer layer's interest, save that what it always passes is as the inner one says
abbrev pub picked_interest : PlainInterest → PlainInterest → PlainInterest
picked_interest Never k = Never
picked_interest Sometimes k = Sometimes
picked_interest Always k = k

-- known where one is known, the higher of two
abbrev pub picked_hint : Option ℕ → Option ℕ → Option ℕ
picked_hint None h = h
picked_hint (Some a) None = Some a
picked_hint (Some a) (Some b) = Some (max a b)

picked_fit : (k j : PlainInterest) (p r : Bool) → InterestFits k p → (p ≡ true → InterestFits j r) → (p ≡ false → r ≡ false) →
    InterestFits (picked_interest k j) r
picked_fit Never j p r a b c = c a
picked_fit Sometimes j p r a b c = tt
picked_fit Always j p r a b c = b a

refused_fits : (i : Option ℕ) (level : ℕ) (r : Bool) → r ≡ false → HintFits i level r
refused_fits None level r e = tt
refused_fits (Some y) level r e = λ lt. e

picked_below : (h i : Option ℕ) (level : ℕ) (p r : Bool) → HintFits h level p → (p ≡ true → HintFits i level r) → (p ≡ false → r ≡ false) →
    HintFits (picked_hint h i) level r
picked_below None i level true r a b c = b refl
picked_below None i level false r a b c = refused_fits i level r (c refl)
picked_below (Some x) None level p r a b c = λ lt. c (a lt)
picked_below (Some x) (Some y) level p r a b c = λ lt. c (a (omega (arith, lt)))

module _ {A B : PlainMetadata → View → Bool → Type 0} {S T : PlainMetadata → PlainInterest → Type 0} {h i : Option ℕ} where
  pub layered_fair : Fair A S h → Fair B T i → Fair (λ m v r. Both (A m v) (B m v) r) (λ m k. SaysOf picked_interest (S m) (T m) k)
      (picked_hint h i)
  layered_fair f g = joined_fair picked_interest picked_hint picked_fit picked_below f g

-- what the filters of both say of a new span, and whether a layer of one of them is told
abbrev pub KeptByBoth : (PlainMetadata → View → Bool → List Bool → Bool → Type 0) →
    (PlainMetadata → View → Bool → List Bool → Bool → Type 0) → PlainMetadata → View → Bool → List Bool → Bool → Type 0
KeptByBoth K J m v passes verdicts some = (a : Bool) × (b : Bool) × K m v passes verdicts a × J m v passes verdicts b × (some ≡ (a || b))

module _ {A B : Type 0} (g : Ghosts A) (h : Ghosts B) where
  -- both are told in turn, the inner one first, whose slots the outer one sees
  abbrev pub BothInTurn : (View → RegistryValue → Notice) → Layered A B → View → RegistryValue → Layered A B → Type 0
  BothInTurn n l v y m = (z : RegistryValue) × h.told l.inner (n v z) m.inner × g.told l.layer (n (seeing z v) y) m.layer

  -- both are told the same: of spans and events in turn, and of a hub the outer one first; and they are attached to the registry in turn,
  -- the outer one first
  abbrev pub NotifiedBoth : Layered A B → Notice → Layered A B → Type 0
  NotifiedBoth l (Called said v y) m = BothInTurn (Called said) l v y m
  NotifiedBoth l (Dispatched handle) m = g.told l.layer (Dispatched handle) m.layer × h.told l.inner (Dispatched handle) m.inner
  NotifiedBoth l (Attached x) m = (y : RegistryValue) × AddsFilters x y × g.told l.layer (Attached x) m.layer ×
      h.told l.inner (Attached y) m.inner

  abbrev pub BothHonest : Layered A B → Type 0
  BothHonest l = g.honest l.layer × h.honest l.inner

  abbrev SameWords : Layered A B → Layered A B → Type 0
  SameWords l m =
      SameWord (λ d k. SaysOf picked_interest (g.says l.layer d) (h.says l.inner d) k)
      (λ d k. SaysOf picked_interest (g.says m.layer d) (h.says m.inner d) k)
      (picked_hint (g.hint l.layer) (h.hint l.inner)) (picked_hint (g.hint m.layer) (h.hint m.inner))

  stays_each : (l m : Layered A B) (n k : Notice) → g.told l.layer n m.layer → h.told l.inner k m.inner → BothHonest l → BothHonest m ×
      SameWords l m
  stays_each l m n k a b honest =
      let outer = g.stays l.layer n m.layer a honest.0 in
      let inner = h.stays l.inner k m.inner b honest.1 in
      ((outer.0, inner.0), joined_word picked_interest picked_hint outer.1 inner.1)

  pub both_stay : (l : Layered A B) (n : Notice) (m : Layered A B) → NotifiedBoth l n m → BothHonest l → BothHonest m × SameWords l m
  both_stay l (Called said v y) m t = stays_each l m (Called said (seeing t.0 v) y) (Called said v t.0) t.2 t.1
  both_stay l (Dispatched handle) m t = stays_each l m (Dispatched handle) (Dispatched handle) t.0 t.1
  both_stay l (Attached x) m t = stays_each l m (Attached x) (Attached t.0) t.2 t.3

  abbrev BothNumbers : Layered A B → List ℕ
  BothNumbers l = g.numbers l.layer ++ h.numbers l.inner

  joined_numbers : (l m : Layered A B) → g.numbers m.layer ≡ g.numbers l.layer → h.numbers m.inner ≡ h.numbers l.inner →
      BothNumbers m ≡ BothNumbers l
  joined_numbers l m a b = ap (λ (ns : List ℕ). ns ++ h.numbers m.inner) a ∙ ap (λ (ns : List ℕ). g.numbers l.layer ++ ns) b

  pub both_numbered : (l : Layered A B) (n : Notice) (m : Layered A B) → NotifiedBoth l n m → NumbersStay n (BothNumbers l) (BothNumbers m)
  both_numbered l (Called said v y) m t = joined_numbers l m (g.numbered l.layer (Called said (seeing t.0 v) y) m.layer t.2)
      (h.numbered l.inner (Called said v t.0) m.inner t.1)
  both_numbered l (Dispatched handle) m t = joined_numbers l m (g.numbered l.layer (Dispatched handle) m.layer t.0)
      (h.numbered l.inner (Dispatched handle) m.inner t.1)
  both_numbered l (Attached x) m t = tt

  abbrev pub keys_of : Layered A B → ℕ → Bool
  keys_of l key = g.keys l.layer key || h.keys l.inner key

  aside_each : (l : Layered A B) (x z y : RegistryValue) → SameButKeys (h.keys l.inner) x z → SameButKeys (g.keys l.layer) z y →
      SameButKeys (keys_of l) x y
  aside_each l x z y a b = keys_then (h.keys l.inner) (g.keys l.layer) x z y a b

  pub both_aside : (l : Layered A B) (n : Notice) (m : Layered A B) → NotifiedBoth l n m → WritesUnder (keys_of l) n
  both_aside l (Called said v y) m t = aside_each l v.registry t.0 y (h.aside l.inner (Called said v t.0) m.inner t.1)
      (g.aside l.layer (Called said (seeing t.0 v) y) m.layer t.2)
  both_aside l (Dispatched handle) m t = tt
  both_aside l (Attached x) m t = tt

  keyed_each : (l m : Layered A B) (n k : Notice) → g.told l.layer n m.layer → h.told l.inner k m.inner → (key : ℕ) →
      keys_of m key ≡ keys_of l key
  keyed_each l m n k a b key = ap (λ p. p || h.keys m.inner key) (g.keyed l.layer n m.layer a key) ∙
      ap (λ q. g.keys l.layer key || q) (h.keyed l.inner k m.inner b key)

  pub both_keyed : (l : Layered A B) (n : Notice) (m : Layered A B) → NotifiedBoth l n m → (key : ℕ) → keys_of m key ≡ keys_of l key
  both_keyed l (Called said v y) m t key = keyed_each l m (Called said (seeing t.0 v) y) (Called said v t.0) t.2 t.1 key
  both_keyed l (Dispatched handle) m t key = keyed_each l m (Dispatched handle) (Dispatched handle) t.0 t.1 key
  both_keyed l (Attached x) m t key = keyed_each l m (Attached x) (Attached t.0) t.2 t.3 key
