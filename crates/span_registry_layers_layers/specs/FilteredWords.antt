-- A layer below a filter stays consistent, keeps its numbers and its keys, and writes slots under these alone.
use Rattle.std.specs.Prelude.{◌≡◌, ℕ, Bool, true, false, Option, Some, None}
use Rattle.std.proofs.Common.{sym, ap, subst, ◌∙◌}
use Rattle.tracing_core_fields.specs.declared.requests.interest.InterestInner.TheVariants.{Always}
use Rattle.tracing_core_fields.specs.requests.Steady.{SameWord}
use Rattle.span_registry_layers_store.specs.Registries.{RegistryValue}
use Rattle.span_registry_layers_store.specs.declared.filter_map.FilterId.{FilterId}
use Rattle.span_registry_layers_layers.specs.Combined.{same_word}
use Rattle.span_registry_layers_layers.specs.Filtereds.{BothKeep, FilteredKept, FilteredTold, HearsAt, HearsIf, KeptAt, KeptUnder, heard}
use Rattle.span_registry_layers_layers.specs.Filtereds.{numbers_in, own_number, under}
use Rattle.span_registry_layers_layers.specs.Honesty.{OneAnswer}
use Rattle.span_registry_layers_layers.specs.FilterViews.{View}
use Rattle.span_registry_layers_layers.specs.Notices.{Attached, Called, Dispatched, Notice, OnEvent, OnFollows, OnIdChange, OnSpan}
use Rattle.span_registry_layers_layers.specs.Notices.{Untouched, WritesUnder, untouched_writes}
use Rattle.span_registry_layers_layers.specs.FilterNumbers.{NumbersStay, equal_numbers, numbers_still}
use Rattle.span_registry_layers_layers.specs.Singles.{then_one}
use Rattle.span_registry_layers_layers.specs.declared.filter.Filter.{Ghosts}
use Rattle.span_registry_layers_layers.specs.declared.filtered.Filtered.{Filtered}
use Rattle.span_registry_layers_layers.specs.declared.layer.Layer.{Ghosts as LayerGhosts}

module _ {L F : Type 0} (g : Ghosts F) (h : LayerGhosts L) where
  -- it writes under the keys of its layer
  abbrev Keys : Filtered L F → ℕ → Bool
  Keys x = h.keys x.layer

  -- what a notice leaves: it stays consistent, and keeps its numbers and its keys
  abbrev Leaves : Filtered L F → Notice → Filtered L F → Type 0
  Leaves x n y = (BothKeep g h x → BothKeep g h y) × NumbersStay n (numbers_in g h x) (numbers_in g h y) × WritesUnder (Keys x) n ×
      ((key : ℕ) → Keys y key ≡ Keys x key)

  stays_left : (x : Filtered L F) (n : Notice) (y : Filtered L F) → y ≡ x → Untouched n → Leaves x n y
  stays_left x n y e u = (
    subst (BothKeep g h) (sym e),
    equal_numbers n (numbers_in g h x) (numbers_in g h y) (ap (numbers_in g h) e),
    untouched_writes (Keys x) n u,
    λ key. ap (λ (z : Filtered L F). Keys z key) e,
  )

  told_left : (x : Filtered L F) (n : Notice) (y : Filtered L F) → h.told x.layer n y.layer → (g.honest x.filter → g.honest y.filter) →
      y.id ≡ x.id → Leaves x n y
  told_left x n y t keeps e = (
    λ both. (keeps both.0, (h.stays x.layer n y.layer t both.1).0),
    numbers_still n (h.numbers x.layer) (h.numbers y.layer) (own_number x.id) (own_number y.id) (ap own_number e)
        (h.numbered x.layer n y.layer t),
    h.aside x.layer n y.layer t,
    h.keyed x.layer n y.layer t,
  )

  heard_honest : (filter : F) (n : Notice) → g.honest filter → g.honest (heard g filter n)
  heard_honest filter (Called (OnSpan id call) v left) k = (g.stays filter (call v) k).0
  heard_honest filter (Called (OnFollows span follows) v left) k = k
  heard_honest filter (Called (OnEvent e) v left) k = k
  heard_honest filter (Called (OnIdChange old new) v left) k = k
  heard_honest filter (Dispatched handle) k = k
  heard_honest filter (Attached r) k = k

  if_left : (b : Bool) (x : Filtered L F) (n : View → RegistryValue → Notice) (v : View) (left : RegistryValue) (y : Filtered L F) →
      (left ≡ v.registry → Untouched (n v left)) → HearsIf g h b x n v left y → Leaves x (n v left) y
  if_left true x n v left y u w =
      told_left x (n v left) y w.0 (λ k. subst g.honest (sym (ap (λ (z : Filtered L F). z.filter) w.1))
      (heard_honest x.filter (n v left) k)) (ap (λ (z : Filtered L F). z.id) w.1)
  if_left false x n v left y u w = stays_left x (n v left) y w.0 (u w.1)

  heard_left : (i : Option FilterId) (x : Filtered L F) (n : View → RegistryValue → Notice) (v : View) (left : RegistryValue)
      (y : Filtered L F) → ((w : View) → left ≡ w.registry → Untouched (n w left)) →
      ((j : FilterId) → Leaves x (n (under j.index v) left) y → Leaves x (n v left) y) → HearsAt g h i x n v left y → Leaves x (n v left) y
  heard_left None x n v left y u same w = stays_left x (n v left) y w.0 (u v w.1)
  heard_left (Some j) x n v left y u same w = same j (if_left w.0 x n (under j.index v) left y (u (under j.index v)) w.2)

  filtered_left : (x : Filtered L F) (n : Notice) (y : Filtered L F) → FilteredTold g h x n y → Leaves x n y
  filtered_left x (Called said v left) y w = heard_left x.id x (Called said) v left y (λ u e. e) (λ j k. k) w.0
  filtered_left x (Dispatched handle) y w = told_left x (Dispatched handle) y w.0.0
      (subst g.honest (sym (ap (λ (z : Filtered L F). z.filter) w.0.1))) (ap (λ (z : Filtered L F). z.id) w.0.1)
  filtered_left x (Attached r) y w = (
    λ both. (
      subst g.honest (sym (ap (λ (z : Filtered L F). z.filter) w.1.4)) both.0,
      (h.stays x.layer (Attached w.1.1) y.layer w.1.3 both.1).0,
    ),
    tt,
    tt,
    h.keyed x.layer (Attached w.1.1) y.layer w.1.3,
  )

  pub filtered_stays : (x : Filtered L F) (n : Notice) (y : Filtered L F) → FilteredTold g h x n y → BothKeep g h x → BothKeep g h y ×
      SameWord (λ m k. k ≡ Always) (λ m k. k ≡ Always) None None
  filtered_stays x n y w both = ((filtered_left x n y w).0 both, same_word (λ m k. k ≡ Always) None)

  pub filtered_numbered : (x : Filtered L F) (n : Notice) (y : Filtered L F) → FilteredTold g h x n y →
      NumbersStay n (numbers_in g h x) (numbers_in g h y)
  filtered_numbered x n y w = (filtered_left x n y w).1

  pub filtered_aside : (x : Filtered L F) (n : Notice) (y : Filtered L F) → FilteredTold g h x n y → WritesUnder (Keys x) n
  filtered_aside x n y w = (filtered_left x n y w).2

  pub filtered_keyed : (x : Filtered L F) (n : Notice) (y : Filtered L F) → FilteredTold g h x n y → (key : ℕ) → Keys y key ≡ Keys x key
  filtered_keyed x n y w = (filtered_left x n y w).3

  under_once : (i : FilterId) (x : Filtered L F) → BothKeep g h x → OneAnswer (KeptUnder g h i x)
  under_once i x both m v passes verdicts others a b p q =
      let own = then_one (g.answers x.filter m (under i.index v)) passes p.0 q.0 ((g.single x.filter both.0).callsite m (under i.index v))
      p.1 q.1 in
      h.once x.layer both.1 m (under i.index v) q.0 verdicts others a b
      (subst (λ o. h.kept x.layer m (under i.index v) o verdicts a) own p.3) q.3

  at_once : (i : Option FilterId) (x : Filtered L F) → BothKeep g h x → OneAnswer (KeptAt g h i x)
  at_once None x both = λ m v passes verdicts others a b p q. p ∙ sym q
  at_once (Some i) x both = under_once i x both

  pub filtered_once : (x : Filtered L F) → BothKeep g h x → OneAnswer (FilteredKept g h x)
  filtered_once x both = at_once x.id x both
