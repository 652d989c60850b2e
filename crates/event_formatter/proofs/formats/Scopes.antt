-- How the spans of a scope are found again by their ids.
use Rattle.std.proofs.Common.{◌≡◌, ◌<◌, ◌+◌, ◌-◌, ℕ, zero, suc, List, [], ◌∷◌, ◌++◌, ◌==◌, Bool, true, false, map, reverse, Option, Some}
use Rattle.std.proofs.Common.{None, is_some, refl, sym, ap, subst, ◌∙◌, if◌then◌else◌, arith, add-one}
use Rattle.std.specs.Option.{option_and_then, option_map}
use Rattle.std.proofs.lemmas.Bool.{eqb-true}
use Rattle.std.proofs.lemmas.List.{map-append, reverse-append}
use Rattle.tracing_core_fields.specs.declared.requests.arguments.parent.Parent.{Parent}
use Rattle.tracing_core_fields.specs.declared.requests.arguments.parent.Parent.TheVariants.{Root, Current, Explicit}
use Rattle.span_registry_layers_store.specs.Lanes.{lane_at}
use Rattle.span_registry_layers_store.specs.References.{PlainRef, ref_of, refs_of}
use Rattle.span_registry_layers_store.specs.Registries.{PlainSpan, RegistryValue, kin_in}
use Rattle.span_registry_layers_store.specs.Spans.{ancestry, found, is_member, line_of, parent_of}
use Rattle.span_registry_layers_store.specs.Views.{all_seen, entry_seen, first_of, latest_seen, one_or_none, seen, seen_if, sees}
use Rattle.span_registry_layers_layers.specs.Contexts.{event_span, lane_span, ref_in, span_in}
use Rattle.span_registry_layers_layers.specs.FilterViews.{View}
use Rattle.event_formatter_lines.specs.Shown.{PlainShown}
use Rattle.event_formatter.specs.formats.Scopes.{only_if, refs_from, shown_at, shown_or_nothing, shown_scope, shown_span}
use Rattle.event_formatter.specs.formats.ScopeIds.{FillsScope, HasNumber, IsSeen, ShowsScope, id_of_ref, ids_to, ids_up}

found_here : (b : Bool) (x s : PlainSpan) (xs : List PlainSpan) (id : ℕ) → (x.kin.id == id) ≡ b →
    (found kin_in xs id ≡ Some s → s.kin.id ≡ id) →
    (if b then Some x else found kin_in xs id) ≡ Some s → s.kin.id ≡ id
found_here true x s xs id is rest same = let e : x ≡ s = cc in ap (λ (y : PlainSpan). y.kin.id) (sym e) ∙ eqb-true x.kin.id id is
found_here false x s xs id is rest same = rest same

-- a span that is found by an id has it
found_id : (xs : List PlainSpan) (id : ℕ) (s : PlainSpan) → found kin_in xs id ≡ Some s → s.kin.id ≡ id
found_id [] id s same = cc
found_id (x ∷ xs) id s same = found_here (x.kin.id == id) x s xs id refl (found_id xs id s) same

passed_by : (b : Bool) (t s : PlainSpan) → (if b then Some t else None) ≡ Some s → Some t ≡ Some s
passed_by true t s same = same
passed_by false t s same = cc

passed : (mask : Option ℕ) (f : Option PlainSpan) (s : PlainSpan) → seen_if mask f ≡ Some s → f ≡ Some s
passed mask None s same = same
passed mask (Some t) s same = passed_by (sees mask t) t s same

-- so it is seen by its own
pub seen_again : (x : RegistryValue) (mask : Option ℕ) (id : ℕ) (s : PlainSpan) → seen x mask id ≡ Some s → seen x mask s.kin.id ≡ Some s
seen_again x mask id s same =
    ap (seen x mask) (found_id x.spans id s (passed mask (found kin_in x.spans id) s same)) ∙ same

-- each span that an id of a list shows is shown by its own
abbrev pub IsShown : View → Option PlainSpan → Type 0
IsShown v f = (s : PlainSpan) → f ≡ Some s → span_in v s.kin.id ≡ Some s

shown_one : (v : View) (key : ℕ) (f : Option PlainSpan) → IsShown v f →
    map (λ (r : PlainRef). shown_at v key (id_of_ref r)) (map (ref_of v.registry v.mask) (one_or_none f))
    ≡ map (λ (r : PlainRef). shown_span key r.span) (map (ref_of v.registry v.mask) (one_or_none f))
shown_one v key None is = refl
shown_one v key (Some s) is = ap (λ (f : Option PlainSpan). shown_or_nothing key f ∷ []) (is s refl)

shown_all : (v : View) (key : ℕ) (ids : List ℕ) →
    map (λ (r : PlainRef). shown_at v key (id_of_ref r)) (refs_of v.registry v.mask ids)
    ≡ map (λ (r : PlainRef). shown_span key r.span) (refs_of v.registry v.mask ids)
shown_all v key [] = refl
shown_all v key (id ∷ ids) =
    let here = one_or_none (seen v.registry v.mask id) in
    let later = all_seen v.registry v.mask ids in
    let by_id = λ (r : PlainRef). shown_at v key (id_of_ref r) in
    let as_it_is = λ (r : PlainRef). shown_span key r.span in
    let ref = ref_of v.registry v.mask in
    ap (map by_id) (map-append ref here later)
    ∙ map-append by_id (map ref here) (map ref later)
    ∙ ap (λ (shown : List PlainShown). shown ++ map by_id (map ref later))
    (shown_one v key (seen v.registry v.mask id) (seen_again v.registry v.mask id))
    ∙ ap (λ (shown : List PlainShown). map as_it_is (map ref here) ++ shown) (shown_all v key ids)
    ∙ sym (map-append as_it_is (map ref here) (map ref later))
    ∙ sym (ap (map as_it_is) (map-append ref here later))

pub map_reverse : {A : Type 0} → {B : Type 0} (f : A → B) (xs : List A) → map f (reverse xs) ≡ reverse (map f xs)
map_reverse f [] = refl
map_reverse f (x ∷ xs) =
    ap (map f) (reverse-append (x ∷ []) xs) ∙ map-append f (reverse xs) (x ∷ []) ∙ ap (λ ys. ys ++ f x ∷ []) (map_reverse f xs)
    ∙ sym (reverse-append (f x ∷ []) (map f xs))

pub map_twice : {A : Type 0} → {B : Type 0} → {C : Type 0} (f : A → B) (g : B → C) (xs : List A) → map g (map f xs) ≡ map (λ x. g (f x)) xs
map_twice f g [] = refl
map_twice f g (x ∷ xs) = ap (λ ys. g (f x) ∷ ys) (map_twice f g xs)

refs_shown : (v : View) (key : ℕ) (f : Option PlainSpan) →
    map (λ (r : PlainRef). shown_at v key (id_of_ref r)) (refs_from v f) ≡ map (λ (r : PlainRef). shown_span key r.span) (refs_from v f)
refs_shown v key None = refl
refs_shown v key (Some s) = shown_all v key (line_of kin_in v.registry.spans s.kin.id)

-- the ids of a scope show it
scope_shown : (v : View) (key : ℕ) (f : Option PlainSpan) → map (shown_at v key) (reverse (map id_of_ref (refs_from v f))) ≡ shown_scope v
    key f
scope_shown v key f =
    let refs = refs_from v f in
    map_reverse (shown_at v key) (map id_of_ref refs)
    ∙ ap reverse (map_twice id_of_ref (shown_at v key) refs ∙ refs_shown v key f)

first_shown : (v : View) (f later : Option PlainSpan) → IsShown v f → IsShown v later → IsShown v (first_of f later)
first_shown v None later here there = there
first_shown v (Some s) later here there = here

entry_shown : (v : View) (earlier : List ℕ) (id : ℕ) (b : Bool) → is_member earlier id ≡ b →
    IsShown v (entry_seen v.registry v.mask earlier id)
entry_shown v earlier id true is = rw is (λ s same. cc)
entry_shown v earlier id false is = rw is (seen_again v.registry v.mask id)

lane_shown : (v : View) (ids : List ℕ) → IsShown v (latest_seen v.registry v.mask ids)
lane_shown v [] = λ s same. cc
lane_shown v (id ∷ earlier) =
    first_shown v (entry_seen v.registry v.mask earlier id) (latest_seen v.registry v.mask earlier)
    (entry_shown v earlier id (is_member earlier id) refl) (lane_shown v earlier)

current_shown : (v : View) → IsShown v (lane_span v)
current_shown v = lane_shown v (reverse (lane_at v.registry.lanes v.at.lane))

pub event_shown : (v : View) (parent : Parent) → IsShown v (event_span v parent)
event_shown v Root = λ s same. cc
event_shown v Current = current_shown v
event_shown v (Explicit id) = seen_again v.registry v.mask id

shows_by : (v : View) (key : ℕ) (strict lane : Option PlainSpan) (ids : List ℕ) (stands_in : Bool) →
    ids ≡ reverse (map id_of_ref (refs_from v (first_of strict lane))) → stands_in ≡ is_some strict →
    (map (shown_at v key) ids ≡ shown_scope v key (first_of strict lane))
    × (only_if stands_in (map (shown_at v key) ids) ≡ shown_scope v key strict)
shows_by v key (Some s) lane ids stands_in are is =
    let all = ap (map (shown_at v key)) are ∙ scope_shown v key (Some s) in rw is (all, all)
shows_by v key None lane ids stands_in are is = rw is (ap (map (shown_at v key)) are ∙ scope_shown v key lane, refl)

-- ids that are those of the loose scope show it
pub shows : (v : View) (parent : Parent) (ids : List ℕ) (stands_in : Bool) → FillsScope v parent ids stands_in →
    ShowsScope v parent ids stands_in
shows v parent ids stands_in filled key =
    shows_by v key (event_span v parent) (lane_span v) ids stands_in filled.0 filled.1

strict_by : (v : View) (f lane : Option PlainSpan) (r : PlainRef) (ids : List ℕ) → Some r ≡ option_map (ref_in v) f →
    ids ≡ reverse (ids_up r) →
    (ids ≡ reverse (map id_of_ref (refs_from v (first_of f lane)))) × (true ≡ is_some f)
strict_by v None lane r ids same are = cc
strict_by v (Some s) lane r ids same are =
    let e : r ≡ ref_in v s = cc in (are ∙ ap (λ (x : PlainRef). reverse (ids_up x)) e, refl)

-- the ids of the span that the event stands in, and its ancestors, are those of the loose scope
pub fills_strict : (v : View) (parent : Parent) (r : PlainRef) (ids : List ℕ) → Some r ≡ option_map (ref_in v) (event_span v parent) →
    ids ≡ reverse (ids_up r) → FillsScope v parent ids true
fills_strict v parent r ids same are = strict_by v (event_span v parent) (lane_span v) r ids same are

loose_by : (v : View) (f lane : Option PlainSpan) (ids : List ℕ) → None ≡ option_map (ref_in v) f →
    ids ≡ reverse (ids_to (option_map (ref_in v) lane)) →
    (ids ≡ reverse (map id_of_ref (refs_from v (first_of f lane)))) × (false ≡ is_some f)
loose_by v None None ids same are = (are, refl)
loose_by v None (Some s) ids same are = (are, refl)
loose_by v (Some s) lane ids same are = cc

-- where it stands in none, those of the lane's span are
pub fills_loose : (v : View) (parent : Parent) (ids : List ℕ) → None ≡ option_map (ref_in v) (event_span v parent) →
    ids ≡ reverse (ids_to (option_map (ref_in v) (lane_span v))) → FillsScope v parent ids false
fills_loose v parent ids same are = loose_by v (event_span v parent) (lane_span v) ids same are

numbered : (v : View) (f : Option PlainSpan) (r : PlainRef) → Some r ≡ option_map (ref_in v) f → 0 < r.span.kin.id → HasNumber f
numbered v None r same is = tt
numbered v (Some s) r same is = let e : r ≡ ref_in v s = cc in subst (λ (x : PlainRef). 0 < x.span.kin.id) e is

pub has_number : (v : View) (parent : Parent) (r : PlainRef) → Some r ≡ option_map (ref_in v) (event_span v parent) → 0 < r.span.kin.id →
    HasNumber (event_span v parent)
has_number v parent r same is = numbered v (event_span v parent) r same is

unnumbered : (v : View) (f : Option PlainSpan) → None ≡ option_map (ref_in v) f → HasNumber f
unnumbered v None same = tt
unnumbered v (Some s) same = cc

pub has_none : (v : View) (parent : Parent) → None ≡ option_map (ref_in v) (event_span v parent) → HasNumber (event_span v parent)
has_none v parent same = unnumbered v (event_span v parent) same

line_next : (spans : List PlainSpan) (m n here : ℕ) → m ≡ n + 1 →
    ancestry kin_in spans m (Some here) ≡ here ∷ ancestry kin_in spans n (parent_of kin_in spans here)
unfolding ancestry
line_next spans m n here e = rw (e, add-one)

below : (n : ℕ) → 0 < n → n ≡ (n - 1) + 1
below zero is = absurd (omega (arith, is))
below (suc n) is = omega arith

-- the line of a span that is open is its own id, and then that of its parent
line_begins : (x : RegistryValue) (mask : Option ℕ) (s : PlainSpan) → seen x mask s.kin.id ≡ Some s → 0 < s.kin.id →
    line_of kin_in x.spans s.kin.id ≡ s.kin.id ∷ ancestry kin_in x.spans (s.kin.id - 1) s.kin.parent
line_begins x mask s same is =
    line_next x.spans s.kin.id (s.kin.id - 1) s.kin.id (below s.kin.id is)
    ∙ ap (λ (f : Option PlainSpan). s.kin.id ∷ ancestry kin_in x.spans (s.kin.id - 1)
    (option_and_then (λ (t : PlainSpan). (kin_in t).parent) f))
    (passed mask (found kin_in x.spans s.kin.id) s same)

-- the ids of its scope are its own, and then those of its ancestors
pub begins : (r : PlainRef) → IsSeen r → 0 < r.span.kin.id →
    ids_up r ≡ r.span.kin.id ∷ map id_of_ref
    (refs_of r.registry r.mask (ancestry kin_in r.registry.spans (r.span.kin.id - 1) r.span.kin.parent))
begins r same is =
    let above = ancestry kin_in r.registry.spans (r.span.kin.id - 1) r.span.kin.parent in
    ap (λ (ids : List ℕ). map id_of_ref (refs_of r.registry r.mask ids)) (line_begins r.registry r.mask r.span same is)
    ∙ ap (λ (f : Option PlainSpan). map id_of_ref (map (ref_of r.registry r.mask) (one_or_none f ++ all_seen r.registry r.mask above))) same

is_seen_by : (v : View) (f : Option PlainSpan) (r : PlainRef) → IsShown v f → Some r ≡ option_map (ref_in v) f → IsSeen r
is_seen_by v None r shown same = cc
is_seen_by v (Some s) r shown same = let e : r ≡ ref_in v s = cc in subst IsSeen (sym e) (shown s refl)

-- the span that an event stands in is seen by its own id
pub event_seen : (v : View) (parent : Parent) (r : PlainRef) → Some r ≡ option_map (ref_in v) (event_span v parent) → IsSeen r
event_seen v parent r same = is_seen_by v (event_span v parent) r (event_shown v parent) same

-- and so is the one that a lane is in
pub lane_seen : (v : View) (r : PlainRef) → Some r ≡ option_map (ref_in v) (lane_span v) → IsSeen r
lane_seen v r same = is_seen_by v (lane_span v) r (current_shown v) same
