-- Spans that close, one after the other: each output follows.
use Rattle.std.proofs.Common.{◌≡◌, ℕ, ◌+◌, ◌<◌, ◌≤◌, ◌==◌, List, [], ◌∷◌, map, Bool, true, false, if◌then◌else◌, Option, Some, refl, ap}
use Rattle.std.proofs.Common.{sym, ◌∙◌, subst, arith}
use Rattle.std.specs.List.{AllByRecursion}
use Rattle.std.proofs.lemmas.Bool.{eqb-true}
use Rattle.std.proofs.lemmas.Bool.Decides.{nat_tests}
use Rattle.std.proofs.lemmas.Simd.{map-map}
use Rattle.tracing_core_fields.specs.requests.PlainRequests.{PlainEvent}
use Rattle.tracing_core_moments.specs.declared.at.At.{At}
use Rattle.span_registry_layers_store.specs.SlotIndependence.{bare, bare_span, ids_of}
use Rattle.span_registry_layers_store.specs.RegistryCalls.{ClosesNext, dropped}
use Rattle.span_registry_layers_store.specs.Laws.{IsOrdered, IsSound}
use Rattle.span_registry_layers_store.specs.Registries.{PlainSpan, RegistryValue, closing_in, kin_in, one_less, swept, without_entry}
use Rattle.span_registry_layers_store.specs.Registries.{without_handle}
use Rattle.span_registry_layers_store.specs.IdOrder.{IsRising, Rises}
use Rattle.span_registry_layers_store.specs.Spans.{changed, found}
use Rattle.span_registry_layers_store.specs.Views.{seen_if}
use Rattle.span_registry_layers_store.proofs.ParentLinks.{closed_carried, left_carried}
use Rattle.span_registry_layers_store.proofs.IdOrder.{rises_from}
use Rattle.span_registry_layers_layers.specs.Notices as notices
use Rattle.span_registry_layers_layers.specs.declared.filter.Filter.{Ghosts as FilterGhosts}
use Rattle.span_registry_layers_layers.specs.declared.filtered.Filtered.{Filtered}
use Rattle.span_registry_layers_layers.specs.declared.layer.Layer.{Ghosts as LayerGhosts}
use Rattle.span_registry_layers.specs.Calls.{Closes, ExitGives}
use Rattle.span_registry_layers.specs.SpanNotices.{ClosesEach}
use Rattle.span_registry_layers.specs.Stacks.{StackValue}
use Rattle.event_formatter_text.specs.declared.format_fields.FormatFields.{Ghosts}
use Rattle.event_formatter_text.specs.declared.settings.Settings.{Settings}
use Rattle.event_formatter.specs.formats.Contexts.{PlainContext}
use Rattle.event_formatter.specs.fmt_layer.LayerNotices.{LayerTold}
use Rattle.span_tracing_outputs.specs.LayerAgreement.{LayerFollows, none_excepted}
use Rattle.span_tracing_outputs.specs.OutputNotices.{Notice, closes_told, exit_told, forgetting, span_told, sweep_told}
use Rattle.span_tracing_outputs.specs.OutputMachines.{Closed, Left}
use Rattle.span_tracing_outputs.specs.BufferedLines.{TakesLine}
use Rattle.span_tracing_outputs.specs.Turns.{AreDistinct, EachFollows, Lined, Lines, RowFollows, keys_of, own}
use Rattle.span_tracing_outputs.proofs.KeptSpans.{seen_found}
use Rattle.span_tracing_outputs.proofs.Rows.{spans_bare, spans_follow}
use Rattle.span_tracing_outputs.proofs.Turns.{each_stays, each_then, keys_stay}

drop_if : (b : Bool) (s : PlainSpan) (ss later : List PlainSpan) (lates : List PlainSpan) → later ≡ map bare_span lates →
    (if b then map bare_span ss else bare_span s ∷ later) ≡ map bare_span (if b then ss else s ∷ lates)
drop_if true s ss later lates e = refl
drop_if false s ss later lates e = ap (λ ls. bare_span s ∷ ls) e

dropped_bare : (ss : List PlainSpan) (id : ℕ) → dropped (map bare_span ss) id ≡ map bare_span (dropped ss id)
dropped_bare [] id = refl
dropped_bare (s ∷ ss) id = drop_if (s.kin.id == id) s ss (dropped (map bare_span ss) id) (dropped ss id) (dropped_bare ss id)

bare_forgetting : (x : RegistryValue) (id : ℕ) → bare (forgetting x id) ≡ forgetting (bare x) id
bare_forgetting x id = ap (λ (ss : List PlainSpan). record x { spans = ss }) (sym (dropped_bare x.spans id))

bare_closing : (x : RegistryValue) → ids_of (closing_in (bare x)) ≡ ids_of (closing_in x)
bare_closing x = ap ids_of (closed_carried kin_in bare_span x.lanes x.spans) ∙
    map-map (λ (s : PlainSpan). s.kin.id) bare_span (closing_in x)

bare_swept : (x : RegistryValue) → swept (bare x) ≡ bare (swept x)
bare_swept x = ap (λ (ss : List PlainSpan). record x { spans = ss }) (left_carried kin_in bare_span x.lanes x.spans)

-- ids rise
rises_unbare : (least : ℕ) (ss : List PlainSpan) → Rises kin_in least (map bare_span ss) → Rises kin_in least ss
rises_unbare least [] rise = tt
rises_unbare least (s ∷ ss) rise = (rise.0, rises_unbare (s.kin.id + 1) ss rise.1)

below_unbare : (next : ℕ) (ss : List PlainSpan) → AllByRecursion (λ (s : PlainSpan). s.kin.id < next) (map bare_span ss) →
    AllByRecursion (λ (s : PlainSpan). s.kin.id < next) ss
below_unbare next [] below = tt
below_unbare next (s ∷ ss) below = (below.0, below_unbare next ss below.1)

unbare_rising : (x : RegistryValue) → IsRising (bare x) → IsRising x
unbare_rising x rising = record { rise = rises_unbare 0 x.spans rising.rise; below = below_unbare x.next_id x.spans rising.below }

rises_bare : (least : ℕ) (ss : List PlainSpan) → Rises kin_in least ss → Rises kin_in least (map bare_span ss)
rises_bare least [] rise = tt
rises_bare least (s ∷ ss) rise = (rise.0, rises_bare (s.kin.id + 1) ss rise.1)

below_bare : (next : ℕ) (ss : List PlainSpan) → AllByRecursion (λ (s : PlainSpan). s.kin.id < next) ss →
    AllByRecursion (λ (s : PlainSpan). s.kin.id < next) (map bare_span ss)
below_bare next [] below = tt
below_bare next (s ∷ ss) below = (below.0, below_bare next ss below.1)

drops_rise : (b : Bool) (least : ℕ) (s : PlainSpan) (ss later : List PlainSpan) → Rises kin_in least (s ∷ ss) →
    Rises kin_in (s.kin.id + 1) later → Rises kin_in least (if b then ss else s ∷ later)
drops_rise true least s ss later rise rest = rises_from kin_in least (s.kin.id + 1) ss (omega (arith, rise.0)) rise.1
drops_rise false least s ss later rise rest = (rise.0, rest)

rises_dropped : (least : ℕ) (ss : List PlainSpan) (id : ℕ) → Rises kin_in least ss → Rises kin_in least (dropped ss id)
rises_dropped least [] id rise = tt
rises_dropped least (s ∷ ss) id rise = drops_rise (s.kin.id == id) least s ss (dropped ss id) rise
    (rises_dropped (s.kin.id + 1) ss id rise.1)

drops_below : (b : Bool) (P : PlainSpan → Type 0) (s : PlainSpan) (ss later : List PlainSpan) → AllByRecursion P (s ∷ ss) →
    AllByRecursion P later → AllByRecursion P (if b then ss else s ∷ later)
drops_below true P s ss later all rest = all.1
drops_below false P s ss later all rest = (all.0, rest)

below_dropped : (P : PlainSpan → Type 0) (ss : List PlainSpan) (id : ℕ) → AllByRecursion P ss → AllByRecursion P (dropped ss id)
below_dropped P [] id all = tt
below_dropped P (s ∷ ss) id all = drops_below (s.kin.id == id) P s ss (dropped ss id) all (below_dropped P ss id all.1)

rising_forgotten : (x : RegistryValue) (id : ℕ) → IsRising x → IsRising (forgetting x id)
rising_forgotten x id rising = record {
  rise = rises_dropped 0 x.spans id rising.rise;
  below =
      below_dropped (λ (s : PlainSpan). s.kin.id < x.next_id) x.spans id rising.below;
}

-- handles don't matter
rises_by : (b : Bool) (least : ℕ) (x : PlainSpan) (xs rest : List PlainSpan) → Rises kin_in least (x ∷ xs) →
    Rises kin_in (x.kin.id + 1) rest → Rises kin_in least (if b then one_less x ∷ xs else x ∷ rest)
rises_by true least x xs rest rise later = (rise.0, rise.1)
rises_by false least x xs rest rise later = (rise.0, later)

rises_less : (least : ℕ) (xs : List PlainSpan) (id : ℕ) → Rises kin_in least xs → Rises kin_in least (changed kin_in one_less xs id)
rises_less least [] id rise = tt
rises_less least (x ∷ xs) id rise = rises_by (x.kin.id == id) least x xs (changed kin_in one_less xs id) rise
    (rises_less (x.kin.id + 1) xs id rise.1)

below_by : (b : Bool) (next : ℕ) (x : PlainSpan) (xs rest : List PlainSpan) → AllByRecursion (λ (s : PlainSpan). s.kin.id < next) (x ∷ xs) →
    AllByRecursion (λ (s : PlainSpan). s.kin.id < next) rest →
    AllByRecursion (λ (s : PlainSpan). s.kin.id < next) (if b then one_less x ∷ xs else x ∷ rest)
below_by true next x xs rest below later = (below.0, below.1)
below_by false next x xs rest below later = (below.0, later)

below_less : (next : ℕ) (xs : List PlainSpan) (id : ℕ) → AllByRecursion (λ (s : PlainSpan). s.kin.id < next) xs →
    AllByRecursion (λ (s : PlainSpan). s.kin.id < next) (changed kin_in one_less xs id)
below_less next [] id below = tt
below_less next (x ∷ xs) id below = below_by (x.kin.id == id) next x xs (changed kin_in one_less xs id) below
    (below_less next xs id below.1)

pub rising_handled : (x : RegistryValue) (id : ℕ) → IsRising x → IsRising (without_handle x id)
rising_handled x id rising = record { rise = rises_less 0 x.spans id rising.rise; below = below_less x.next_id x.spans id rising.below }

ordered_rises : (earlier : List ℕ) (least low : ℕ) (ss : List PlainSpan) → low ≤ least + 1 → IsOrdered earlier least ss →
    Rises kin_in low ss
ordered_rises earlier least low [] le ordered = tt
ordered_rises earlier least low (s ∷ ss) le ordered =
    (omega (arith, le, ordered.0), ordered_rises (s.kin.id ∷ earlier) s.kin.id (s.kin.id + 1) ss (omega arith) ordered.2)

pub sound_rising : (x : RegistryValue) → IsSound x → IsRising (bare x)
sound_rising x sound = record {
  rise = rises_bare 0 x.spans (ordered_rises [] 0 0 x.spans (omega arith) sound.ordered);
  below =
      below_bare x.next_id x.spans sound.below;
}

-- what is found once a span is gone was found before
above_by : (b : Bool) (least other : ℕ) (x s : PlainSpan) (o : Option PlainSpan) → (x.kin.id == other) ≡ b → least ≤ x.kin.id →
    (o ≡ Some s → x.kin.id + 1 ≤ other) → (if b then Some x else o) ≡ Some s → least ≤ other
above_by true least other x s o is le rest e = let same : x.kin.id ≡ other = eqb-true x.kin.id other is in omega (arith, le, same)
above_by false least other x s o is le rest e = let later = rest e in omega (arith, le, later)

found_above : (least other : ℕ) (ss : List PlainSpan) (s : PlainSpan) → Rises kin_in least ss → found kin_in ss other ≡ Some s →
    least ≤ other
found_above least other [] s rise e = absurd (cc)
found_above least other (x ∷ xs) s rise e = above_by (x.kin.id == other) least other x s (found kin_in xs other) refl rise.0
    (found_above (x.kin.id + 1) other xs s rise.1) e

not_equal : (a b : ℕ) → a + 1 ≤ b → (a == b) ≡ false
not_equal a b le = grind (arith, nat_tests, le)

found_if : (b : Bool) (x s : PlainSpan) (o p : Option PlainSpan) → (o ≡ Some s → p ≡ Some s) → (if b then Some x else o) ≡ Some s →
    (if b then Some x else p) ≡ Some s
found_if true x s o p f e = e
found_if false x s o p f e = f e

dropped_by : (b : Bool) (other : ℕ) (x s : PlainSpan) (xs later : List PlainSpan) → Rises kin_in (x.kin.id + 1) xs →
    (found kin_in later other ≡ Some s → found kin_in xs other ≡ Some s) →
    found kin_in (if b then xs else x ∷ later) other ≡ Some s → (if x.kin.id == other then Some x else found kin_in xs other) ≡ Some s
dropped_by true other x s xs later rise f e = rw (not_equal x.kin.id other (found_above (x.kin.id + 1) other xs s rise e)) e
dropped_by false other x s xs later rise f e = found_if (x.kin.id == other) x s (found kin_in later other) (found kin_in xs other) f e

found_dropped : (least id other : ℕ) (ss : List PlainSpan) (s : PlainSpan) → Rises kin_in least ss →
    found kin_in (dropped ss id) other ≡ Some s → found kin_in ss other ≡ Some s
found_dropped least id other [] s rise e = e
found_dropped least id other (x ∷ xs) s rise e = dropped_by (x.kin.id == id) other x s xs (dropped xs id) rise.1
    (found_dropped (x.kin.id + 1) id other xs s rise.1) e

module _ {N E F : Type 0} (n : Ghosts N) (line_of : E → Settings → PlainContext → PlainEvent → Option (List ℕ)) (g : FilterGhosts F) where
  row_forgets : (x : RegistryValue) (id : ℕ) (row : Lined N E F) → IsRising x → RowFollows n line_of g x row [] (forgetting x id) row
  row_forgets x id row rising = record {
    fated = [];
    told = refl;
    number = refl;
    config = refl;
    starved = refl;
    filter = refl;
    agreed = λ o agrees. (
      agrees.0,
      λ other s not is.
          let gone = seen_found (Some row.id.index) (found kin_in (dropped x.spans id) other) s is in
          let there = found_dropped 0 id other x.spans s rising.rise gone in
          agrees.1 other s not (ap (seen_if (Some row.id.index)) (there ∙ sym gone) ∙ is),
    );
  }

  each_forgets : (x : RegistryValue) (id : ℕ) (rows : List (Lined N E F)) → IsRising x →
      EachFollows n line_of g (λ row. []) x rows (forgetting x id) rows
  each_forgets x id [] rising = tt
  each_forgets x id (row ∷ rows) rising = (row_forgets x id row rising, each_forgets x id rows rising)

  gone_is : (z without : RegistryValue) (id : ℕ) → IsRising z → ClosesNext z id without → without ≡ forgetting z id
  gone_is z without id rising next = next.4 ∙ ap (λ (ss : List PlainSpan). record z { spans = ss })
      (next.5 rising ∙ ap (dropped z.spans) next.1)

  -- where the spans are the same, what is kept with them is
  row_lanes : (x z y : RegistryValue) (row later : Lined N E F) (ns : List Notice) → z.spans ≡ x.spans →
      RowFollows n line_of g z row ns y later → RowFollows n line_of g x row ns y later
  row_lanes x z y row later ns same a = record {
    fated = a.fated;
    told = a.told;
    number = a.number;
    config = a.config;
    starved = a.starved;
    filter = a.filter;
    agreed = λ o agrees. a.agreed o (
      agrees.0,
      λ id s not is. agrees.1 id s not (ap (λ (ss : List PlainSpan). seen_if (Some row.id.index) (found kin_in ss id))
          (sym same) ∙ is),
    );
  }

  pub each_lanes : (x z y : RegistryValue) (ns : Lined N E F → List Notice) (rows later : List (Lined N E F)) → z.spans ≡ x.spans →
      EachFollows n line_of g ns z rows y later → EachFollows n line_of g ns x rows y later
  each_lanes x z y ns [] [] same follows = tt
  each_lanes x z y ns [] (m ∷ ms) same follows = absurd follows
  each_lanes x z y ns (l ∷ ls) [] same follows = absurd follows
  each_lanes x z y ns (l ∷ ls) (m ∷ ms) same follows = (row_lanes x z y l m (ns l) same follows.0, each_lanes x z y ns ls ms same follows.1)

  module _ (follow : LayerFollows n line_of own TakesLine)
      (h : LayerGhosts (Lines N E)) (says : (layer : Lines N E) (t : notices.Notice) (later : Lines N E) → h.told layer t later →
      LayerTold n line_of TakesLine layer t later) where
    closes_follow : (ids : List ℕ) (at : At) (k x : RegistryValue) (rows : List (Lined N E F)) (y : RegistryValue)
        (later : List (Lined N E F)) → IsRising k → bare x ≡ k → AreDistinct (keys_of rows) →
        ClosesEach g h ids at x rows y later → EachFollows n line_of g (λ row. closes_told k at ids row.id.index) x rows y later
    closes_follow [] at k x rows y later rising is distinct closes = each_stays n line_of g (λ row. []) x y rows later (λ row. refl)
        closes.0 closes.1
    closes_follow (id ∷ ids) at k x rows y later rising is distinct (told, z, turns, (without, next, rest)) =
        let first = spans_follow n line_of g follow h says Closed id at k x rows z told is distinct turns in
        let same : bare z ≡ k = spans_bare n line_of g follow h says Closed id at x rows z told turns ∙ is in
        let rise : IsRising z = unbare_rising z (subst IsRising (sym same) rising) in
        let gone : without ≡ forgetting z id = gone_is z without id rise next in
        let after : bare without ≡ forgetting k id = ap bare gone ∙ bare_forgetting z id ∙
        ap (λ (w : RegistryValue). forgetting w id) same in
        let keys : AreDistinct (keys_of told) =
        subst AreDistinct (sym (keys_stay n line_of g none_excepted (λ row. span_told k at Closed id row.id.index) x z rows told first))
        distinct in
        let later_ones = closes_follow ids at (forgetting k id) without told y later (rising_forgotten k id rising) after keys rest in
        let forgets : EachFollows n line_of g (λ row. []) z told without told =
        subst (λ (w : RegistryValue). EachFollows n line_of g (λ row. []) z told w told) (sym gone) (each_forgets z id told rise) in
        each_then n line_of g (λ m. span_told k at Closed id m) (λ m. closes_told (forgetting k id) at ids m) x z y rows told later first
        (each_then n line_of g (λ m. []) (λ m. closes_told (forgetting k id) at ids m) z without y told told later forgets later_ones)

    -- all closes that nothing keeps open
    pub sweep_follows : (k : RegistryValue) (s t : StackValue (Filtered (Lines N E) F)) (at : At) → IsRising k → bare s.registry ≡ k →
        AreDistinct (keys_of s.rows) → Closes g h at s t →
        EachFollows n line_of g (λ row. sweep_told k at row.id.index) s.registry s.rows t.registry t.rows × (bare t.registry ≡ swept k)
    sweep_follows k s t at rising same distinct closes =
        let ids : ids_of (closing_in s.registry) ≡ ids_of (closing_in k) = sym (bare_closing s.registry) ∙
        ap (λ (z : RegistryValue). ids_of (closing_in z)) same in (
          closes_follow (ids_of (closing_in k)) at k s.registry s.rows t.registry t.rows rising same distinct
              (subst (λ (is : List ℕ). ClosesEach g h is at s.registry s.rows t.registry t.rows) ids closes.0),
          closes.1 ∙ sym (bare_swept s.registry) ∙ ap swept same,
        )

    pub exit_follows : (s t : StackValue (Filtered (Lines N E) F)) (id : ℕ) (at : At) → IsSound s.registry → AreDistinct (keys_of s.rows) →
        ExitGives g h id at s t →
        EachFollows n line_of g (λ row. exit_told (bare s.registry) at id row.id.index) s.registry s.rows t.registry t.rows
        × (bare t.registry ≡ swept (without_entry (bare s.registry) at.lane id))
    exit_follows s t id at sound distinct (told, heard, closes) =
        let x = without_entry s.registry at.lane id in
        let k = without_entry (bare s.registry) at.lane id in
        let first = spans_follow n line_of g follow h says Left id at k x s.rows told.registry told.rows refl distinct heard.0 in
        let same : bare told.registry ≡ k = spans_bare n line_of g follow h says Left id at x s.rows told.registry told.rows heard.0 in
        let rising : IsRising (bare s.registry) = sound_rising s.registry sound in
        let rise : IsRising k = record { rise = rising.rise; below = rising.below } in
        let keys : AreDistinct (keys_of told.rows) =
        subst AreDistinct (sym (keys_stay n line_of g none_excepted (λ row. span_told k at Left id row.id.index) x told.registry s.rows
        told.rows first)) distinct in
        let second = sweep_follows k told t at rise same keys closes in (
          each_lanes s.registry x t.registry (λ row. exit_told (bare s.registry) at id row.id.index) s.rows t.rows refl
              (each_then n line_of g (λ m. span_told k at Left id m) (λ m. sweep_told k at m) x told.registry t.registry s.rows told.rows
              t.rows first second.0),
          second.1,
        )
