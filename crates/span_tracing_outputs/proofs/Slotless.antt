-- What is seen of a registry doesn't hang on its slots.
use Rattle.std.proofs.Common.{◌≡◌, ℕ, zero, suc, List, [], ◌∷◌, ◌++◌, map, Bool, true, false, if◌then◌else◌, Option, Some, None, reverse}
use Rattle.std.proofs.Common.{refl, ap, sym, ◌∙◌}
use Rattle.std.specs.Option.{option_map}
use Rattle.std.proofs.lemmas.List.{map-append}
use Rattle.tracing_core_fields.specs.requests.PlainRequests.{PlainEvent}
use Rattle.tracing_core_moments.specs.declared.at.At.{At}
use Rattle.tracing_core_fields.specs.declared.requests.arguments.parent.Parent.{Parent}
use Rattle.tracing_core_fields.specs.declared.requests.arguments.parent.Parent.TheVariants.{Root, Current, Explicit}
use Rattle.span_registry_layers_store.specs.SlotIndependence.{bare, bare_span}
use Rattle.span_registry_layers_store.specs.Lanes.{lane_at}
use Rattle.span_registry_layers_store.specs.Registries.{PlainSpan, RegistryValue, kin_in}
use Rattle.span_registry_layers_store.specs.Slots.{PlainPlace}
use Rattle.span_registry_layers_store.specs.Spans as spans
use Rattle.span_registry_layers_store.specs.Spans.{ancestry, found, is_member, parent_of}
use Rattle.span_registry_layers_store.specs.Views.{all_seen, entry_seen, first_of, latest_seen, one_or_none, scope_of, seen, seen_if}
use Rattle.span_registry_layers_store.specs.Views as views
use Rattle.span_registry_layers_store.proofs.ParentLinks.{found_carried, parent_carried}
use Rattle.span_registry_layers_layers.specs.Contexts.{event_span, lane_span}
use Rattle.span_registry_layers_layers.specs.FilterViews.{View, seeing}
use Rattle.event_formatter.specs.formats.Scopes.{loose_leaf}
use Rattle.span_tracing_outputs.specs.OutputNotices.{call_told, heard_call, heard_event, seen_as, seen_from}
use Rattle.span_tracing_outputs.specs.OutputMachines.{Call, Happened, Seen}

module _ (h : List PlainPlace → List PlainPlace) where
  abbrev pub slotted : PlainSpan → PlainSpan
  slotted s = record s { slots = h s.slots }

  -- with other slots
  abbrev pub reslotted : RegistryValue → RegistryValue
  reslotted x = record x { spans = map slotted x.spans }

  if_seen : (b : Bool) (s : PlainSpan) → (if b then Some (slotted s) else None) ≡ option_map slotted (if b then Some s else None)
  if_seen true s = refl
  if_seen false s = refl

  seen_some : (mask : Option ℕ) (o : Option PlainSpan) → seen_if mask (option_map slotted o) ≡ option_map slotted (seen_if mask o)
  seen_some mask None = refl
  seen_some None (Some s) = refl
  seen_some (Some n) (Some s) = if_seen (views.sees (Some n) s) s

  pub seen_slotted : (x : RegistryValue) (mask : Option ℕ) (id : ℕ) → seen (reslotted x) mask id ≡ option_map slotted (seen x mask id)
  seen_slotted x mask id = ap (seen_if mask) (found_carried kin_in slotted x.spans id) ∙ seen_some mask (found kin_in x.spans id)

  one_slotted : (o : Option PlainSpan) → map seen_as (one_or_none (option_map slotted o)) ≡ map seen_as (one_or_none o)
  one_slotted None = refl
  one_slotted (Some s) = refl

  all_slotted : (x : RegistryValue) (mask : Option ℕ) (ids : List ℕ) →
      map seen_as (all_seen (reslotted x) mask ids) ≡ map seen_as (all_seen x mask ids)
  all_slotted x mask [] = refl
  all_slotted x mask (id ∷ ids) =
      map-append seen_as (one_or_none (seen (reslotted x) mask id)) (all_seen (reslotted x) mask ids)
      ∙ ap (λ (o : Option PlainSpan). map seen_as (one_or_none o) ++ map seen_as (all_seen (reslotted x) mask ids)) (seen_slotted x mask id)
      ∙ ap (λ (ss : List Seen). ss ++ map seen_as (all_seen (reslotted x) mask ids)) (one_slotted (seen x mask id))
      ∙ ap (λ (ss : List Seen). map seen_as (one_or_none (seen x mask id)) ++ ss) (all_slotted x mask ids)
      ∙ sym (map-append seen_as (one_or_none (seen x mask id)) (all_seen x mask ids))

  walk_slotted : (xs : List PlainSpan) (most : ℕ) (at : Option ℕ) → ancestry kin_in (map slotted xs) most at ≡ ancestry kin_in xs most at
  unfolding ancestry
  walk_slotted xs zero at = refl
  walk_slotted xs (suc most) None = refl
  walk_slotted xs (suc most) (Some id) =
      ap (λ (ids : List ℕ). id ∷ ids) (ap (ancestry kin_in (map slotted xs) most) (parent_carried kin_in slotted xs id) ∙
      walk_slotted xs most (parent_of kin_in xs id))

  pub scope_slotted : (x : RegistryValue) (mask : Option ℕ) (id : ℕ) →
      map seen_as (scope_of (reslotted x) mask id) ≡ map seen_as (scope_of x mask id)
  scope_slotted x mask id =
      ap (λ (ids : List ℕ). map seen_as (all_seen (reslotted x) mask ids)) (walk_slotted x.spans id (Some id)) ∙
      all_slotted x mask (spans.line_of kin_in x.spans id)

  pub first_slotted : (o p : Option PlainSpan) → first_of (option_map slotted o) (option_map slotted p) ≡ option_map slotted (first_of o p)
  first_slotted None p = refl
  first_slotted (Some s) p = refl

  entry_slotted : (b : Bool) (x : RegistryValue) (mask : Option ℕ) (id : ℕ) →
      (if b then None else seen (reslotted x) mask id) ≡ option_map slotted (if b then None else seen x mask id)
  entry_slotted true x mask id = refl
  entry_slotted false x mask id = seen_slotted x mask id

  latest_slotted : (x : RegistryValue) (mask : Option ℕ) (ids : List ℕ) →
      latest_seen (reslotted x) mask ids ≡ option_map slotted (latest_seen x mask ids)
  latest_slotted x mask [] = refl
  latest_slotted x mask (id ∷ ids) =
      ap (λ (o : Option PlainSpan). first_of o (latest_seen (reslotted x) mask ids)) (entry_slotted (is_member ids id) x mask id)
      ∙ ap (first_of (option_map slotted (entry_seen x mask ids id))) (latest_slotted x mask ids)
      ∙ first_slotted (entry_seen x mask ids id) (latest_seen x mask ids)

  abbrev with_slots : View → View
  with_slots v = seeing (reslotted v.registry) v

  lane_slotted : (v : View) → lane_span (with_slots v) ≡ option_map slotted (lane_span v)
  lane_slotted v = latest_slotted v.registry v.mask (reverse (lane_at v.registry.lanes v.at.lane))

  event_slotted : (v : View) (parent : Parent) → event_span (with_slots v) parent ≡ option_map slotted (event_span v parent)
  event_slotted v Root = refl
  event_slotted v Current = lane_slotted v
  event_slotted v (Explicit id) = seen_slotted v.registry v.mask id

  loose_slotted : (v : View) (parent : Parent) → loose_leaf (with_slots v) parent ≡ option_map slotted (loose_leaf v parent)
  loose_slotted v parent =
      ap (λ (o : Option PlainSpan). first_of o (lane_span (with_slots v))) (event_slotted v parent)
      ∙ ap (first_of (option_map slotted (event_span v parent))) (lane_slotted v)
      ∙ first_slotted (event_span v parent) (lane_span v)

  from_slotted : (v : View) (o : Option PlainSpan) → seen_from (with_slots v) (option_map slotted o) ≡ seen_from v o
  from_slotted v None = refl
  from_slotted v (Some s) = ap reverse (scope_slotted v.registry v.mask s.kin.id)

  -- an event is heard as before
  pub event_heard : (v : View) (e : PlainEvent) → heard_event (with_slots v) e ≡ heard_event v e
  event_heard v e =
      let loose = ap (seen_from (with_slots v)) (loose_slotted v e.parent) ∙ from_slotted v (loose_leaf v e.parent) in
      let strict = ap (seen_from (with_slots v)) (event_slotted v e.parent) ∙ from_slotted v (event_span v e.parent) in
      ap (λ (ss : List Seen). record {
        at = v.at;
        said = Happened e;
        loose = ss;
        strict =
            seen_from (with_slots v) (event_span (with_slots v) e.parent);
      }) loose
      ∙ ap (λ (ss : List Seen). record { at = v.at; said = Happened e; loose = seen_from v (loose_leaf v e.parent); strict = ss }) strict

  -- so is a call on a span
  pub call_heard : (v : View) (s : PlainSpan) (call : Call) → heard_call (with_slots v) (slotted s) call ≡ heard_call v s call
  call_heard v s call =
      ap (λ (ss : List Seen). record {
        at = v.at;
        said = Rattle.span_tracing_outputs.specs.OutputMachines.OnSpan s.kin.id s.metadata call;
        loose = ss;
        strict = ss;
      }) (from_slotted v (Some s))

-- the span of an id is the same but for its slots, in registries that are the same but for slots
pub seen_alike : (x y : RegistryValue) (mask : Option ℕ) (id : ℕ) → bare y ≡ bare x →
    option_map bare_span (seen y mask id) ≡ option_map bare_span (seen x mask id)
seen_alike x y mask id same =
    sym (seen_slotted (λ ps. []) y mask id) ∙ ap (λ (z : RegistryValue). seen z mask id) same ∙ seen_slotted (λ ps. []) x mask id

-- a span has the same ancestors there
pub scope_alike : (x y : RegistryValue) (mask : Option ℕ) (id : ℕ) → bare y ≡ bare x →
    map seen_as (scope_of y mask id) ≡ map seen_as (scope_of x mask id)
scope_alike x y mask id same =
    sym (scope_slotted (λ ps. []) y mask id) ∙ ap (λ (z : RegistryValue). map seen_as (scope_of z mask id)) same ∙
    scope_slotted (λ ps. []) x mask id

-- what the skeleton tells of a span is what the registry shows
told_bare : (x : RegistryValue) (at : At) (call : Call) (number : ℕ) (o : Option PlainSpan) →
    call_told (option_map bare_span o) (bare x) at call number ≡ call_told (option_map bare_span o) (bare x) at call number
told_bare x at call number o = refl
