-- What an output is told is settled by the spans as it knows them.
use Rattle.std.proofs.Common.{◌≡◌, ◌∙◌, ◌==◌, ℕ, zero, suc, Bool, true, false, if◌then◌else◌, List, [], ◌∷◌, ◌++◌, map, reverse}
use Rattle.std.proofs.Common.{Option}
use Rattle.std.proofs.Common.{Some, None, refl, sym, ap}
use Rattle.std.specs.Option.{option_map}
use Rattle.std.proofs.lemmas.List.{map-append}
use Rattle.std.proofs.lemmas.Simd.{map-map}
use Rattle.tracing_core_fields.specs.declared.requests.arguments.parent.Parent.{Parent}
use Rattle.tracing_core_fields.specs.declared.requests.arguments.parent.Parent.TheVariants.{Current, Explicit, Root}
use Rattle.tracing_core_fields.specs.requests.PlainRequests.{PlainEvent}
use Rattle.tracing_core_moments.specs.declared.at.At.{At}
use Rattle.span_registry_layers_store.proofs.ParentLinks.{changed_carried, closed_carried, found_carried, left_carried, parent_carried}
use Rattle.span_registry_layers_store.specs.Lanes.{lane_at}
use Rattle.span_registry_layers_store.specs.RegistryCalls.{dropped}
use Rattle.span_registry_layers_store.specs.Registries.{PlainSpan, RegistryValue, closing_in, kin_in, one_less, one_more, swept}
use Rattle.span_registry_layers_store.specs.Registries.{with_handle}
use Rattle.span_registry_layers_store.specs.Registries.{without_entry, without_handle}
use Rattle.span_registry_layers_store.specs.SlotIndependence.{ids_of}
use Rattle.span_registry_layers_store.specs.Spans.{ancestry, found, is_member, line_of, parent_of}
use Rattle.span_registry_layers_store.specs.Views.{all_seen, entry_seen, first_of, latest_seen, one_or_none, scope_of, seen}
use Rattle.span_registry_layers_store.specs.Views.{seen_if, sees}
use Rattle.span_registry_layers_layers.specs.Contexts.{event_span, lane_span}
use Rattle.event_formatter.specs.formats.Scopes.{loose_leaf}
use Rattle.span_tracing_outputs.specs.OutputMachines.{Call, Closed, Heard, Left, Seen}
use Rattle.span_tracing_outputs.specs.OutputNotices.{Notice, call_told, close_told, closes_told, exit_told}
use Rattle.span_tracing_outputs.specs.OutputNotices.{forgetting}
use Rattle.span_tracing_outputs.specs.OutputNotices.{heard_call, heard_event, heards, seen_as, seen_from, span_told, sweep_told, view_under}
use Rattle.span_tracing_laws.specs.isolation.OwnRequests.{own_registry, own_span}

module _ (number : ℕ) where
  abbrev own : PlainSpan → PlainSpan
  own s = own_span number s

  abbrev owned : RegistryValue → RegistryValue
  owned x = own_registry number x

  -- ancestors speak of kinship alone
  line_own : (ss : List PlainSpan) (most : ℕ) (at : Option ℕ) → ancestry kin_in (map own ss) most at ≡ ancestry kin_in ss most at
  unfolding ancestry
  line_own ss zero at = refl
  line_own ss (suc most) None = refl
  line_own ss (suc most) (Some id) =
      ap (λ (ids : List ℕ). id ∷ ids)
      (ap (ancestry kin_in (map own ss) most) (parent_carried kin_in own ss id) ∙ line_own ss most (parent_of kin_in ss id))

  line_same : (x : RegistryValue) (id : ℕ) → line_of kin_in (owned x).spans id ≡ line_of kin_in x.spans id
  line_same x id = line_own x.spans id (Some id)

  seen_one : (o : Option PlainSpan) → seen_if (Some 0) (option_map own o) ≡ option_map own (seen_if (Some number) o)
  seen_one None = refl
  seen_one (Some s) = by_if (sees (Some number) s)
    where
      by_if : (b : Bool) → (if b then Some (own s) else None) ≡ option_map own (if b then Some s else None)
      by_if true = refl
      by_if false = refl

  seen_own : (x : RegistryValue) (id : ℕ) → seen (owned x) (Some 0) id ≡ option_map own (seen x (Some number) id)
  seen_own x id = ap (seen_if (Some 0)) (found_carried kin_in own x.spans id) ∙ seen_one (found kin_in x.spans id)

  one_own : (o : Option PlainSpan) → one_or_none (option_map own o) ≡ map own (one_or_none o)
  one_own None = refl
  one_own (Some s) = refl

  all_own : (x : RegistryValue) (ids : List ℕ) → all_seen (owned x) (Some 0) ids ≡ map own (all_seen x (Some number) ids)
  all_own x [] = refl
  all_own x (id ∷ ids) =
      ap (λ (o : Option PlainSpan). one_or_none o ++ all_seen (owned x) (Some 0) ids) (seen_own x id)
      ∙ ap (λ (ss : List PlainSpan). ss ++ all_seen (owned x) (Some 0) ids) (one_own (seen x (Some number) id))
      ∙ ap (λ (ss : List PlainSpan). map own (one_or_none (seen x (Some number) id)) ++ ss) (all_own x ids)
      ∙ sym (map-append own (one_or_none (seen x (Some number) id)) (all_seen x (Some number) ids))

  scope_own : (x : RegistryValue) (id : ℕ) → map seen_as (scope_of (owned x) (Some 0) id) ≡ map seen_as (scope_of x (Some number) id)
  scope_own x id =
      ap (λ (ids : List ℕ). map seen_as (all_seen (owned x) (Some 0) ids)) (line_same x id)
      ∙ ap (map seen_as) (all_own x (line_of kin_in x.spans id))
      ∙ map-map seen_as own (all_seen x (Some number) (line_of kin_in x.spans id))

  from_own : (x : RegistryValue) (at : At) (o : Option PlainSpan) →
      seen_from (view_under at (owned x) 0) (option_map own o) ≡ seen_from (view_under at x number) o
  from_own x at None = refl
  from_own x at (Some s) = ap (λ (ss : List Seen). reverse ss) (scope_own x s.kin.id)

  first_own : (o p : Option PlainSpan) → first_of (option_map own o) (option_map own p) ≡ option_map own (first_of o p)
  first_own None p = refl
  first_own (Some s) p = refl

  entry_own : (x : RegistryValue) (earlier : List ℕ) (id : ℕ) →
      entry_seen (owned x) (Some 0) earlier id ≡ option_map own (entry_seen x (Some number) earlier id)
  entry_own x earlier id = by_if (is_member earlier id)
    where
      by_if : (b : Bool) → (if b then None else seen (owned x) (Some 0) id) ≡ option_map own (if b then None else seen x (Some number) id)
      by_if true = refl
      by_if false = seen_own x id

  latest_own : (x : RegistryValue) (ids : List ℕ) → latest_seen (owned x) (Some 0) ids ≡ option_map own (latest_seen x (Some number) ids)
  latest_own x [] = refl
  latest_own x (id ∷ earlier) =
      ap (λ (o : Option PlainSpan). first_of o (latest_seen (owned x) (Some 0) earlier)) (entry_own x earlier id)
      ∙ ap (first_of (option_map own (entry_seen x (Some number) earlier id))) (latest_own x earlier)
      ∙ first_own (entry_seen x (Some number) earlier id) (latest_seen x (Some number) earlier)

  lane_own : (x : RegistryValue) (at : At) → lane_span (view_under at (owned x) 0) ≡ option_map own (lane_span (view_under at x number))
  lane_own x at = latest_own x (reverse (lane_at x.lanes at.lane))

  event_own : (x : RegistryValue) (at : At) (parent : Parent) →
      event_span (view_under at (owned x) 0) parent ≡ option_map own (event_span (view_under at x number) parent)
  event_own x at Root = refl
  event_own x at Current = lane_own x at
  event_own x at (Explicit id) = seen_own x id

  loose_own : (x : RegistryValue) (at : At) (parent : Parent) →
      loose_leaf (view_under at (owned x) 0) parent ≡ option_map own (loose_leaf (view_under at x number) parent)
  loose_own x at parent =
      ap (λ (o : Option PlainSpan). first_of o (lane_span (view_under at (owned x) 0))) (event_own x at parent)
      ∙ ap (first_of (option_map own (event_span (view_under at x number) parent))) (lane_own x at)
      ∙ first_own (event_span (view_under at x number) parent) (lane_span (view_under at x number))

  -- what is heard of an event
  pub hears_event : (x : RegistryValue) (at : At) (e : PlainEvent) →
      heard_event (view_under at (owned x) 0) e ≡ heard_event (view_under at x number) e
  hears_event x at e =
      ap (λ (seen : List Seen). record (heard_event (view_under at (owned x) 0) e) { loose = seen })
      (ap (seen_from (view_under at (owned x) 0)) (loose_own x at e.parent) ∙ from_own x at (loose_leaf (view_under at x number) e.parent))
      ∙ ap (λ (seen : List Seen). record (heard_event (view_under at x number) e) { strict = seen })
      (ap (seen_from (view_under at (owned x) 0)) (event_own x at e.parent) ∙ from_own x at (event_span (view_under at x number) e.parent))

  -- of a call on a span
  call_own : (x : RegistryValue) (at : At) (call : Call) (o : Option PlainSpan) →
      heards (call_told (option_map own o) (owned x) at call 0) ≡ heards (call_told o x at call number)
  call_own x at call None = refl
  call_own x at call (Some s) =
      ap (λ (seen : List Seen). record (heard_call (view_under at x number) s call) { loose = seen; strict = seen } ∷ [])
      (from_own x at (Some s))

  pub hears_span : (x : RegistryValue) (at : At) (call : Call) (id : ℕ) →
      heards (span_told (owned x) at call id 0) ≡ heards (span_told x at call id number)
  hears_span x at call id =
      ap (λ (o : Option PlainSpan). heards (call_told o (owned x) at call 0)) (seen_own x id) ∙ call_own x at call (seen x (Some number) id)

  dropped_if : (b : Bool) (s : PlainSpan) (ss ts : List PlainSpan) (us : List PlainSpan) → us ≡ map own ts →
      (if b then map own ss else own s ∷ us) ≡ map own (if b then ss else s ∷ ts)
  dropped_if true s ss ts us same = refl
  dropped_if false s ss ts us same = ap (λ (vs : List PlainSpan). own s ∷ vs) same

  dropped_own : (ss : List PlainSpan) (id : ℕ) → dropped (map own ss) id ≡ map own (dropped ss id)
  dropped_own [] id = refl
  dropped_own (s ∷ ss) id = dropped_if (s.kin.id == id) s ss (dropped ss id) (dropped (map own ss) id) (dropped_own ss id)

  abbrev with_spans : RegistryValue → List PlainSpan → RegistryValue
  with_spans x ss = record (owned x) { spans = ss }

  forgetting_own : (x : RegistryValue) (id : ℕ) → forgetting (owned x) id ≡ owned (forgetting x id)
  forgetting_own x id = ap (with_spans x) (dropped_own x.spans id)

  heards_both : (xs ys : List Notice) → heards (xs ++ ys) ≡ heards xs ++ heards ys
  heards_both xs ys = map-append (λ (t : Notice). t.heard) xs ys

  closes_own : (x : RegistryValue) (at : At) (ids : List ℕ) →
      heards (closes_told (owned x) at ids 0) ≡ heards (closes_told x at ids number)
  closes_own x at [] = refl
  closes_own x at (id ∷ ids) =
      heards_both (span_told (owned x) at Closed id 0) (closes_told (forgetting (owned x) id) at ids 0)
      ∙ ap (λ (y : RegistryValue). heards (span_told (owned x) at Closed id 0) ++ heards (closes_told y at ids 0)) (forgetting_own x id)
      ∙ ap (λ (hs : List Heard). hs ++ heards (closes_told (owned (forgetting x id)) at ids 0)) (hears_span x at Closed id)
      ∙ ap (λ (hs : List Heard). heards (span_told x at Closed id number) ++ hs) (closes_own (forgetting x id) at ids)
      ∙ sym (heards_both (span_told x at Closed id number) (closes_told (forgetting x id) at ids number))

  closing_own : (x : RegistryValue) → ids_of (closing_in (owned x)) ≡ ids_of (closing_in x)
  closing_own x = ap ids_of (closed_carried kin_in own x.lanes x.spans) ∙ map-map (λ (s : PlainSpan). s.kin.id) own (closing_in x)

  sweep_own : (x : RegistryValue) (at : At) → heards (sweep_told (owned x) at 0) ≡ heards (sweep_told x at number)
  sweep_own x at = ap (λ (ids : List ℕ). heards (closes_told (owned x) at ids 0)) (closing_own x) ∙ closes_own x at (ids_of (closing_in x))

  -- what calls leave
  pub swept_own : (x : RegistryValue) → swept (owned x) ≡ owned (swept x)
  swept_own x = ap (with_spans x) (left_carried kin_in own x.lanes x.spans)

  pub handle_own : (x : RegistryValue) (id : ℕ) → with_handle (owned x) id ≡ owned (with_handle x id)
  handle_own x id = ap (with_spans x) (changed_carried kin_in own one_more one_more (λ s. refl) x.spans id)

  pub given_own : (x : RegistryValue) (id : ℕ) → without_handle (owned x) id ≡ owned (without_handle x id)
  given_own x id = ap (with_spans x) (changed_carried kin_in own one_less one_less (λ s. refl) x.spans id)

  pub hears_exit : (x : RegistryValue) (at : At) (id : ℕ) → heards (exit_told (owned x) at id 0) ≡ heards (exit_told x at id number)
  hears_exit x at id =
      let y = without_entry x at.lane id in
      heards_both (span_told (owned y) at Left id 0) (sweep_told (owned y) at 0)
      ∙ ap (λ (hs : List Heard). hs ++ heards (sweep_told (owned y) at 0)) (hears_span y at Left id)
      ∙ ap (λ (hs : List Heard). heards (span_told y at Left id number) ++ hs) (sweep_own y at)
      ∙ sym (heards_both (span_told y at Left id number) (sweep_told y at number))

  pub hears_close : (x : RegistryValue) (at : At) (id : ℕ) → heards (close_told (owned x) at id 0) ≡ heards (close_told x at id number)
  hears_close x at id =
      ap (λ (y : RegistryValue). heards (sweep_told y at 0)) (given_own x id) ∙ sweep_own (without_handle x id) at
