-- Registries that differ in slots alone.
use Rattle.std.proofs.Common.{◌≡◌, ℕ, ◌<◌, List, [], ◌∷◌, map, Bool, true, false, ◌==◌, if◌then◌else◌, refl, ap, sym, ◌∙◌, subst}
use Rattle.std.proofs.lemmas.Simd.{map-map}
use Rattle.std.specs.List.{AllByRecursion}
use Rattle.span_registry_layers_store.specs.SlotIndependence.{SameButSlots, SlotsStandAside, bare, bare_span, ids_of}
use Rattle.span_registry_layers_store.specs.RegistryCalls.{IsNext}
use Rattle.span_registry_layers_store.specs.SlotCalls.{with_places, with_slots}
use Rattle.span_registry_layers_store.specs.Laws.{IsOrdered, IsSound}
use Rattle.span_registry_layers_store.specs.Registries.{PlainSpan, RegistryValue, closing_in, current_on, kin_in, swept}
use Rattle.span_registry_layers_store.specs.Slots.{PlainPlace}
use Rattle.span_registry_layers_store.specs.Spans.{changed, is_entered, is_open, open_of}
use Rattle.span_registry_layers_store.proofs.ParentLinks.{closed_carried, left_carried, open_carried, stays_carried}
use Rattle.span_registry_layers_store.proofs.EnteredIds.{entered_all, entered_from}
use Rattle.span_registry_layers_store.proofs.Sweeps.{all_stay_join, all_stay_split}

-- over a registry between two
pub aside_then : (x y z : RegistryValue) → SameButSlots x y → SameButSlots y z → SameButSlots x z
aside_then x y z same also = also ∙ same

-- other slots of a span: by whether it is the first one
written_if : (is_first : Bool) (places : List PlainPlace) (s : PlainSpan) (ss later : List PlainSpan) →
    map bare_span later ≡ map bare_span ss →
    map bare_span (if is_first then with_places places s ∷ ss else s ∷ later) ≡ map bare_span (s ∷ ss)
written_if true places s ss later same = refl
written_if false places s ss later same = ap (λ rest. bare_span s ∷ rest) same

written_spans : (places : List PlainPlace) (ss : List PlainSpan) (id : ℕ) → map bare_span (changed kin_in (with_places places) ss id) ≡ map
    bare_span ss
written_spans places [] id = refl
written_spans places (s ∷ ss) id = written_if (s.kin.id == id) places s ss (changed kin_in (with_places places) ss id)
    (written_spans places ss id)

pub written_aside : (x : RegistryValue) (id : ℕ) (places : List PlainPlace) → SameButSlots x (with_slots x id places)
written_aside x id places = ap (λ (ss : List PlainSpan). record x { spans = ss }) (written_spans places x.spans id)

aside_spans : (x y : RegistryValue) → SameButSlots x y → map bare_span y.spans ≡ map bare_span x.spans
aside_spans x y same = ap (λ (z : RegistryValue). z.spans) same

-- kinship, lanes, the next id and the number of filters are the same
pub aside_kin : (x y : RegistryValue) → SameButSlots x y → map kin_in y.spans ≡ map kin_in x.spans
aside_kin x y same = sym (map-map kin_in bare_span y.spans) ∙ ap (map kin_in) (aside_spans x y same) ∙ map-map kin_in bare_span x.spans

pub aside_lanes : (x y : RegistryValue) → SameButSlots x y → y.lanes ≡ x.lanes
aside_lanes x y same = ap (λ (z : RegistryValue). z.lanes) same

pub aside_next : (x y : RegistryValue) → SameButSlots x y → y.next_id ≡ x.next_id
aside_next x y same = ap (λ (z : RegistryValue). z.next_id) same

-- and so is what is open
pub aside_open : (x y : RegistryValue) (id : ℕ) → SameButSlots x y → is_open kin_in y.spans id ≡ is_open kin_in x.spans id
aside_open x y id same =
    sym (open_carried kin_in bare_span y.spans id)
    ∙ ap (λ (ss : List PlainSpan). is_open kin_in ss id) (aside_spans x y same)
    ∙ open_carried kin_in bare_span x.spans id

-- and what each lane is in
pub aside_current : (x y : RegistryValue) (lane : ℕ) → SameButSlots x y → current_on y lane ≡ current_on x lane
aside_current x y lane same = ap (λ (z : RegistryValue). current_on z lane) same

bare_closing : (x : RegistryValue) → ids_of (closing_in (bare x)) ≡ ids_of (closing_in x)
bare_closing x = ap ids_of (closed_carried kin_in bare_span x.lanes x.spans) ∙
    map-map (λ (s : PlainSpan). s.kin.id) bare_span (closing_in x)

-- the same spans close
pub aside_closing : (x y : RegistryValue) → SameButSlots x y → ids_of (closing_in y) ≡ ids_of (closing_in x)
aside_closing x y same = sym (bare_closing y) ∙ ap (λ (z : RegistryValue). ids_of (closing_in z)) same ∙ bare_closing x

bare_swept : (x : RegistryValue) → swept (bare x) ≡ bare (swept x)
bare_swept x = ap (λ (ss : List PlainSpan). record x { spans = ss }) (left_carried kin_in bare_span x.lanes x.spans)

-- what is left differs in slots alone
pub aside_swept : (x y : RegistryValue) → SameButSlots x y → SameButSlots (swept x) (swept y)
aside_swept x y same = sym (bare_swept y) ∙ ap swept same ∙ bare_swept x

-- where the first id is known, the first span is
first_known : (ss : List PlainSpan) (id : ℕ) (ids : List ℕ) → ids_of ss ≡ id ∷ ids → (s : PlainSpan) × (later : List PlainSpan) ×
    (s.kin.id ≡ id) × (ss ≡ s ∷ later)
first_known [] id ids known = cc
first_known (s ∷ ss) id ids known = (s, ss, cc, refl)

-- the same span closes next
pub aside_next_closes : (x y : RegistryValue) (id : ℕ) → SameButSlots x y → IsNext x id → IsNext y id
aside_next_closes x y id same next = first_known (closing_in y) id (ids_of next.1) (aside_closing x y same ∙ ap ids_of next.3 ∙
    ap (λ (n : ℕ). n ∷ ids_of next.1) next.2)

-- spans of the same kinship are in the same order
ordered_alike : (earlier : List ℕ) (least : ℕ) (ss ts : List PlainSpan) → map kin_in ts ≡ map kin_in ss → IsOrdered earlier least ss →
    IsOrdered earlier least ts
ordered_alike earlier least ss [] alike ordered = tt
ordered_alike earlier least [] (t ∷ ts) alike ordered = cc
ordered_alike earlier least (s ∷ ss) (t ∷ ts) alike ordered =
    let first : t.kin ≡ s.kin = cc in
    let later : map kin_in ts ≡ map kin_in ss = cc in
    rw first (ordered.0, ordered.1, ordered_alike (s.kin.id ∷ earlier) s.kin.id ss ts later ordered.2)

-- and below the same ids
below_alike : (next : ℕ) (ss ts : List PlainSpan) → map kin_in ts ≡ map kin_in ss → AllByRecursion (λ (s : PlainSpan). s.kin.id < next) ss →
    AllByRecursion (λ (s : PlainSpan). s.kin.id < next) ts
below_alike next ss [] alike below = tt
below_alike next [] (t ∷ ts) alike below = cc
below_alike next (s ∷ ss) (t ∷ ts) alike below =
    let first : t.kin ≡ s.kin = cc in
    let later : map kin_in ts ≡ map kin_in ss = cc in
    (rw first (below.0), below_alike next ss ts later below.1)

-- where all stay without slots, all stay
bare_stay : (lanes : List (List ℕ)) (ss : List PlainSpan) → open_of kin_in lanes (map bare_span ss) ≡ map bare_span ss →
    open_of kin_in lanes ss ≡ ss
unfolding open_of
bare_stay lanes [] all = refl
bare_stay lanes (s ∷ ss) all =
    let parts = all_stay_split lanes (bare_span s) (map bare_span ss) all in
    all_stay_join lanes s ss (sym (stays_carried kin_in bare_span lanes s ss) ∙ parts.0) (bare_stay lanes ss parts.1)

aside_stay : (x y : RegistryValue) → SameButSlots x y → open_of kin_in x.lanes x.spans ≡ x.spans → open_of kin_in y.lanes y.spans ≡ y.spans
aside_stay x y same all =
    bare_stay y.lanes y.spans
    (ap (λ (z : RegistryValue). open_of kin_in z.lanes z.spans) same
    ∙ left_carried kin_in bare_span x.lanes x.spans
    ∙ ap (map bare_span) all
    ∙ sym (aside_spans x y same))

pub aside_sound : (x y : RegistryValue) → SameButSlots x y → IsSound x → IsSound y
aside_sound x y same sound = record {
  started = subst (λ (n : ℕ). 0 < n) (sym (aside_next x y same)) sound.started;
  ordered = ordered_alike [] 0 x.spans y.spans (aside_kin x y same) sound.ordered;
  below = subst (λ (n : ℕ). AllByRecursion (λ (s : PlainSpan). s.kin.id < n) y.spans) (sym (aside_next x y same))
      (below_alike x.next_id x.spans y.spans (aside_kin x y same) sound.below);
  all_open = aside_stay x y same sound.all_open;
  entries = entered_from (is_open kin_in y.spans) y.lanes
      (λ id entry. aside_open x y id same ∙ entered_all (is_open kin_in x.spans) x.lanes sound.entries id
      (ap (λ (lanes : List (List ℕ)). is_entered lanes id) (sym (aside_lanes x y same)) ∙ entry));
}

pub slots_aside : SlotsStandAside
slots_aside x y same = record {
  closing = aside_closing x y same;
  left = aside_swept x y same;
  listed = λ id. aside_open x y id same;
  lane = λ number. aside_current x y number same;
  sound = aside_sound x y same;
}
