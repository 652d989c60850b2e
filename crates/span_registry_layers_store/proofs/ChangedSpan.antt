-- Spans of which one was changed in what says nothing of its kinship.
use Rattle.std.proofs.Common.{◌≡◌, ℕ, ◌<◌, List, [], ◌∷◌, Bool, true, false, ◌||◌, ◌==◌, nat_lt, if◌then◌else◌, refl, ap, ◌∙◌}
use Rattle.std.specs.List.{AllByRecursion}
use Rattle.span_registry_layers_store.specs.Laws.{IsOrdered}
use Rattle.span_registry_layers_store.specs.Registries.{PlainSpan, kin_in}
use Rattle.span_registry_layers_store.specs.Spans.{changed, has_child, is_entered, is_open, is_parent, open_of, stays}
use Rattle.span_registry_layers_store.proofs.OpenSpans.{or_map}
use Rattle.span_registry_layers_store.proofs.Sweeps.{all_stay_join, all_stay_split}

-- a change that leaves a span's id and parent
pub record PreservesKinship (f : PlainSpan → PlainSpan) : Type 0 where
  pub same_id : (s : PlainSpan) → (f s).kin.id ≡ s.kin.id
  pub same_parent : (s : PlainSpan) → (f s).kin.parent ≡ s.kin.parent

module _ (f : PlainSpan → PlainSpan) (k : PreservesKinship f) where
  -- by whether it is the first span's
  abbrev changed_if : Bool → PlainSpan → List PlainSpan → ℕ → List PlainSpan
  changed_if is_first s ss id = if is_first then f s ∷ ss else s ∷ changed kin_in f ss id

  ordered_if : (is_first : Bool) (earlier : List ℕ) (least : ℕ) (s : PlainSpan) (ss : List PlainSpan) (id : ℕ) →
      IsOrdered earlier least (s ∷ ss) →
      IsOrdered (s.kin.id ∷ earlier) s.kin.id (changed kin_in f ss id) → IsOrdered earlier least (changed_if is_first s ss id)
  ordered_if true earlier least s ss id ordered later = rw (k.same_id s, k.same_parent s) ordered
  ordered_if false earlier least s ss id ordered later = (ordered.0, ordered.1, later)

  -- it keeps the order
  pub changed_ordered : (earlier : List ℕ) (least : ℕ) (ss : List PlainSpan) (id : ℕ) → IsOrdered earlier least ss →
      IsOrdered earlier least (changed kin_in f ss id)
  changed_ordered earlier least [] id ordered = tt
  changed_ordered earlier least (s ∷ ss) id ordered = ordered_if (s.kin.id == id) earlier least s ss id ordered
      (changed_ordered (s.kin.id ∷ earlier) s.kin.id ss id ordered.2)

  below_if : (is_first : Bool) (next : ℕ) (s : PlainSpan) (ss : List PlainSpan) (id : ℕ) →
      AllByRecursion (λ (x : PlainSpan). x.kin.id < next) (s ∷ ss) →
      AllByRecursion (λ (x : PlainSpan). x.kin.id < next) (changed kin_in f ss id) →
      AllByRecursion (λ (x : PlainSpan). x.kin.id < next) (changed_if is_first s ss id)
  below_if true next s ss id below later = rw (k.same_id s) below
  below_if false next s ss id below later = (below.0, later)

  -- and the bound of ids
  pub changed_below : (next : ℕ) (ss : List PlainSpan) (id : ℕ) → AllByRecursion (λ (x : PlainSpan). x.kin.id < next) ss →
      AllByRecursion (λ (x : PlainSpan). x.kin.id < next) (changed kin_in f ss id)
  changed_below next [] id below = tt
  changed_below next (s ∷ ss) id below = below_if (s.kin.id == id) next s ss id below (changed_below next ss id below.1)

  open_if : (is_first : Bool) (s : PlainSpan) (ss : List PlainSpan) (id x : ℕ) →
      is_open kin_in (changed kin_in f ss id) x ≡ is_open kin_in ss x → is_open kin_in (changed_if is_first s ss id) x ≡ is_open kin_in
      (s ∷ ss) x
  open_if true s ss id x later = rw (k.same_id s) refl
  open_if false s ss id x later = ap (λ (b : Bool). (s.kin.id == x) || b) later

  -- it changes nothing in which ids are open
  pub changed_open : (ss : List PlainSpan) (id x : ℕ) → is_open kin_in (changed kin_in f ss id) x ≡ is_open kin_in ss x
  changed_open [] id x = refl
  changed_open (s ∷ ss) id x = open_if (s.kin.id == id) s ss id x (changed_open ss id x)

  child_if : (is_first : Bool) (s : PlainSpan) (ss : List PlainSpan) (id x : ℕ) →
      has_child kin_in (changed kin_in f ss id) x ≡ has_child kin_in ss x →
      has_child kin_in (changed_if is_first s ss id) x ≡ has_child kin_in (s ∷ ss) x
  child_if true s ss id x later = rw (k.same_parent s) refl
  child_if false s ss id x later = ap (λ (b : Bool). is_parent x s.kin.parent || b) later

  -- nor in who has a child
  pub changed_child : (ss : List PlainSpan) (id x : ℕ) → has_child kin_in (changed kin_in f ss id) x ≡ has_child kin_in ss x
  changed_child [] id x = refl
  changed_child (s ∷ ss) id x = child_if (s.kin.id == id) s ss id x (changed_child ss id x)

  module _ (held : (s : PlainSpan) → nat_lt 0 s.kin.handles ≡ true → nat_lt 0 (f s).kin.handles ≡ true) (lanes : List (List ℕ)) where
    first_stays : (s : PlainSpan) (ss : List PlainSpan) → stays kin_in lanes s ss ≡ true → stays kin_in lanes (f s) ss ≡ true
    first_stays s ss is =
        or_map (nat_lt 0 s.kin.handles) (is_entered lanes s.kin.id || has_child kin_in ss s.kin.id) (nat_lt 0 (f s).kin.handles)
        (is_entered lanes (f s).kin.id || has_child kin_in ss (f s).kin.id)
        (held s) (λ h. rw (k.same_id s) h) is

    later_stays : (s : PlainSpan) (ss later : List PlainSpan) → has_child kin_in later s.kin.id ≡ has_child kin_in ss s.kin.id →
        stays kin_in lanes s ss ≡ true → stays kin_in lanes s later ≡ true
    later_stays s ss later same is = ap (λ (b : Bool). nat_lt 0 s.kin.handles || (is_entered lanes s.kin.id || b)) same ∙ is

    stay_if : (is_first : Bool) (s : PlainSpan) (ss : List PlainSpan) (id : ℕ) → stays kin_in lanes s ss ≡ true →
        open_of kin_in lanes ss ≡ ss →
        open_of kin_in lanes (changed kin_in f ss id) ≡ changed kin_in f ss id →
        open_of kin_in lanes (changed_if is_first s ss id) ≡ changed_if is_first s ss id
    stay_if true s ss id is all later = all_stay_join lanes (f s) ss (first_stays s ss is) all
    stay_if false s ss id is all later = all_stay_join lanes s (changed kin_in f ss id)
        (later_stays s ss (changed kin_in f ss id) (changed_child ss id s.kin.id) is) later

    -- where all stay and it leaves handles where there are some, all stay
    pub changed_all_stay : (ss : List PlainSpan) (id : ℕ) → open_of kin_in lanes ss ≡ ss →
        open_of kin_in lanes (changed kin_in f ss id) ≡ changed kin_in f ss id
    changed_all_stay [] id all = all
    changed_all_stay (s ∷ ss) id all =
        let parts = all_stay_split lanes s ss all in
        stay_if (s.kin.id == id) s ss id parts.0 parts.1 (changed_all_stay ss id parts.1)
