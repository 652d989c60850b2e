-- What is kept with spans, as lines show it and as calls leave it.
use Rattle.std.proofs.Common.{◌≡◌, ℕ, ◌==◌, List, [], ◌∷◌, ◌++◌, map, reverse, Bool, true, false, if◌then◌else◌, Option, Some, None, refl}
use Rattle.std.proofs.Common.{ap, sym, ◌∙◌, arith}
use Rattle.std.specs.Option.{option_map}
use Rattle.std.proofs.lemmas.Bool.{eqb-true}
use Rattle.std.proofs.lemmas.Bool.Decides.{nat_tests}
use Rattle.std.proofs.lemmas.List.{map-append, reverse-append}
use Rattle.span_registry_layers_store.specs.SlotIndependence.{bare, bare_span}
use Rattle.span_registry_layers_store.specs.References.{PlainRef, ref_of}
use Rattle.span_registry_layers_store.specs.Registries.{PlainSpan, RegistryValue, kin_in}
use Rattle.span_registry_layers_store.specs.Spans.{found, line_of}
use Rattle.span_registry_layers_store.specs.Views.{all_seen, one_or_none, scope_of, seen, seen_if}
use Rattle.span_registry_layers_store.specs.Views as views
use Rattle.span_registry_layers_layers.specs.FilterViews.{View, seeing}
use Rattle.event_formatter_lines.specs.Shown.{PlainShown}
use Rattle.event_formatter_lines.specs.slots.FieldsAndTimings.{PlainKept, kept_at, text_of}
use Rattle.event_formatter_lines.specs.slots.SpanUpdates.{KeptAfter, kept_under, kept_with}
use Rattle.event_formatter.specs.formats.Scopes.{shown_scope, shown_span}
use Rattle.span_tracing_outputs.specs.LayerAgreement.{KeptAre, KeptBut}
use Rattle.span_tracing_outputs.specs.OutputNotices.{seen_as, seen_from}
use Rattle.span_tracing_outputs.specs.OutputMachines.{KeptSpan, kept_found, shown_with}
use Rattle.span_tracing_outputs.proofs.Slotless.{scope_alike, seen_alike}

found_here : (b : Bool) (x s : PlainSpan) (xs : List PlainSpan) (id : ℕ) → (x.kin.id == id) ≡ b →
    (found kin_in xs id ≡ Some s → s.kin.id ≡ id) →
    (if b then Some x else found kin_in xs id) ≡ Some s → s.kin.id ≡ id
found_here true x s xs id is rest same = let e : x ≡ s = cc in ap (λ (y : PlainSpan). y.kin.id) (sym e) ∙ eqb-true x.kin.id id is
found_here false x s xs id is rest same = rest same

found_id : (xs : List PlainSpan) (id : ℕ) (s : PlainSpan) → found kin_in xs id ≡ Some s → s.kin.id ≡ id
found_id [] id s same = cc
found_id (x ∷ xs) id s same = found_here (x.kin.id == id) x s xs id refl (found_id xs id s) same

seen_by : (b : Bool) (t s : PlainSpan) → (if b then Some t else None) ≡ Some s → Some t ≡ Some s
seen_by true t s e = e
seen_by false t s e = absurd (cc)

pub seen_found : (mask : Option ℕ) (o : Option PlainSpan) (s : PlainSpan) → seen_if mask o ≡ Some s → o ≡ Some s
seen_found mask None s e = absurd (cc)
seen_found mask (Some t) s e = seen_by (views.sees mask t) t s e

-- a span that is seen by an id has it
pub seen_id : (x : RegistryValue) (mask : Option ℕ) (id : ℕ) (s : PlainSpan) → seen x mask id ≡ Some s → s.kin.id ≡ id
seen_id x mask id s e = found_id x.spans id s (seen_found mask (found kin_in x.spans id) s e)

map_reverse : {A : Type 0} → {B : Type 0} (f : A → B) (xs : List A) → map f (reverse xs) ≡ reverse (map f xs)
map_reverse f [] = refl
map_reverse f (x ∷ xs) =
    ap (map f) (reverse-append (x ∷ []) xs) ∙ map-append f (reverse xs) (x ∷ []) ∙ ap (λ ys. ys ++ f x ∷ []) (map_reverse f xs)
    ∙ sym (reverse-append (f x ∷ []) (map f xs))

map_twice : {A : Type 0} → {B : Type 0} → {C : Type 0} (f : A → B) (g : B → C) (xs : List A) → map g (map f xs) ≡ map (λ x. g (f x)) xs
map_twice f g [] = refl
map_twice f g (x ∷ xs) = ap (λ ys. g (f x) ∷ ys) (map_twice f g xs)

-- spans that are seen, as lines show them
more_shown : (key : ℕ) (kept : List KeptSpan) (o : Option PlainSpan) (rest : List PlainSpan) →
    ((s : PlainSpan) → o ≡ Some s → kept_at key s.slots ≡ kept_found kept s.kin.id) →
    map (shown_span key) rest ≡ map (shown_with kept) (map seen_as rest) →
    map (shown_span key) (one_or_none o ++ rest) ≡ map (shown_with kept) (map seen_as (one_or_none o ++ rest))
more_shown key kept None rest here later = later
more_shown key kept (Some s) rest here later =
    ap (λ (k : PlainKept). (record { name = s.metadata.name; target = s.metadata.target; text = text_of k }) ∷ map (shown_span key) rest)
    (here s refl)
    ∙ ap (λ (shown : List PlainShown). shown_with kept (seen_as s) ∷ shown) later

all_shown : (x : RegistryValue) (mask : Option ℕ) (key : ℕ) (kept : List KeptSpan) → KeptAre x mask key kept → (ids : List ℕ) →
    map (shown_span key) (all_seen x mask ids) ≡ map (shown_with kept) (map seen_as (all_seen x mask ids))
all_shown x mask key kept are [] = refl
all_shown x mask key kept are (id ∷ ids) =
    more_shown key kept (seen x mask id) (all_seen x mask ids) (λ s is. are id s refl is) (all_shown x mask key kept are ids)

pub scope_shown : (v : View) (key : ℕ) (kept : List KeptSpan) → KeptAre v.registry v.mask key kept → (leaf : Option PlainSpan) →
    shown_scope v key leaf ≡ map (shown_with kept) (seen_from v leaf)
scope_shown v key kept are None = refl
scope_shown v key kept are (Some s) =
    let spans = scope_of v.registry v.mask s.kin.id in
    ap reverse (map_twice (ref_of v.registry v.mask) (λ (r : PlainRef). shown_span key r.span) spans
    ∙ all_shown v.registry v.mask key kept are (line_of kin_in v.registry.spans s.kin.id))
    ∙ sym (map_reverse (shown_with kept) (map seen_as spans))

-- where slots alone differ, the same spans stand above a span
pub from_alike : (v : View) (y : RegistryValue) (s t : PlainSpan) → bare y ≡ bare v.registry → t.kin.id ≡ s.kin.id →
    seen_from (seeing y v) (Some t) ≡ seen_from v (Some s)
from_alike v y s t same is =
    ap (λ (id : ℕ). reverse (map seen_as (scope_of y v.mask id))) is ∙ ap reverse (scope_alike v.registry y v.mask s.kin.id same)

-- what is kept of a span is read from the front of what is kept
found_other : (b : Bool) (k : KeptSpan) (ks : List KeptSpan) (id : ℕ) → (k.id == id) ≡ b → b ≡ false →
    kept_found (k ∷ ks) id ≡ kept_found ks id
found_other b k ks id e not = rw (e ∙ not) refl

found_first : (k : KeptSpan) (ks : List KeptSpan) (id : ℕ) → k.id ≡ id → kept_found (k ∷ ks) id ≡ k.kept
found_first k ks id e = rw (equal_tests k.id id e) refl
  where
    equal_tests : (a b : ℕ) → a ≡ b → (a == b) ≡ true
    equal_tests a b e = grind (arith, nat_tests, e)

under_seen : (key : ℕ) (o : Option PlainSpan) (s : PlainSpan) → o ≡ Some s → kept_with key o ≡ kept_at key s.slots
under_seen key o s e = rw e refl

-- a span that is seen after slots were written was seen before
seen_before : (o : Option PlainSpan) (t : PlainSpan) → option_map bare_span (Some t) ≡ option_map bare_span o → (s : PlainSpan) ×
    (o ≡ Some s) × (t.kin ≡ s.kin) × (t.metadata ≡ s.metadata)
seen_before None t e = absurd (cc)
seen_before (Some s) t e = let same : bare_span t ≡ bare_span s = cc in
    (s, refl, ap (λ (z : PlainSpan). z.kin) same, ap (λ (z : PlainSpan). z.metadata) same)

pub was_seen : (x y : RegistryValue) (mask : Option ℕ) (id : ℕ) (t : PlainSpan) → bare y ≡ bare x → seen y mask id ≡ Some t →
    (s : PlainSpan) × (seen x mask id ≡ Some s) × (t.kin ≡ s.kin) × (t.metadata ≡ s.metadata)
was_seen x y mask id t same is =
    seen_before (seen x mask id) t (ap (option_map bare_span) (sym is) ∙ seen_alike x y mask id same)

-- once a span keeps something else, and nothing else changed, what is kept has that in front
module _ (v : View) (id key : ℕ) (written : PlainKept) (y : RegistryValue) (kept : List KeptSpan) (but : ℕ → Bool)
    (same : bare y ≡ bare v.registry) (after : KeptAfter v id key written y) (excepted : (other : ℕ) → (id == other) ≡ false →
    but other ≡ false) where
  abbrev pub now : List KeptSpan
  now = (record { id = id; kept = written }) ∷ kept

  kept_by : (b : Bool) (other : ℕ) (t : PlainSpan) → (id == other) ≡ b → KeptBut but v.registry v.mask key kept →
      seen y v.mask other ≡ Some t →
      kept_at key t.slots ≡ kept_found now t.kin.id
  kept_by true other t e are is =
      let own : id ≡ other = eqb-true id other e in
      let it = was_seen v.registry y v.mask other t same is in
      let there : seen v.registry v.mask id ≡ Some it.0 = ap (λ (n : ℕ). seen v.registry v.mask n) own ∙ it.1 in
      sym (under_seen key (seen y v.mask other) t is)
      ∙ ap (λ (n : ℕ). kept_under y v.mask n key) (sym own)
      ∙ after.written it.0 there
      ∙ sym (found_first (record { id = id; kept = written }) kept t.kin.id (own ∙ sym (seen_id y v.mask other t is)))
  kept_by false other t e are is =
      let it = was_seen v.registry y v.mask other t same is in
      sym (under_seen key (seen y v.mask other) t is)
      ∙ after.elsewhere v.mask other e
      ∙ under_seen key (seen v.registry v.mask other) it.0 it.1
      ∙ are other it.0 (excepted other e) it.1
      ∙ ap (kept_found kept) (ap (λ k. k.id) (sym it.2))
      ∙ sym (found_other (id == t.kin.id) (record { id = id; kept = written }) kept t.kin.id refl
      (ap (λ (n : ℕ). id == n) (seen_id y v.mask other t is) ∙ e))

  pub kept_now : KeptBut but v.registry v.mask key kept → KeptAre y v.mask key now
  kept_now are other t none is = kept_by (id == other) other t refl are is
