-- What the calls of a stack tell its outputs.
use Rattle.std.proofs.Common.{◌≡◌, ℕ, ◌+◌, ◌==◌, List, [], ◌∷◌, ◌++◌, map, Bool, true, false, if◌then◌else◌, Option, Some, None, Result, Ok}
use Rattle.std.proofs.Common.{Err, refl, ap, sym, ◌∙◌, subst}
use Rattle.std.proofs.lemmas.List.{map-append}
use Rattle.tracing_core_fields.specs.PlainMetadata.{PlainMetadata}
use Rattle.tracing_core_fields.specs.requests.PlainRequests.{PlainAttributes, PlainEvent, PlainValues, explicit_parent}
use Rattle.tracing_core_moments.specs.declared.at.At.{At}
use Rattle.tracing_core_fields.specs.declared.requests.refusal.RequestError.{RequestError}
use Rattle.tracing_core_fields.specs.declared.requests.arguments.parent.Parent.{Parent}
use Rattle.tracing_core_fields.specs.declared.requests.arguments.parent.Parent.TheVariants.{Root, Current, Explicit}
use Rattle.span_registry_layers_store.specs.SlotIndependence.{bare, bare_span}
use Rattle.span_registry_layers_store.specs.RegistryCalls.{EntryGives, GivesUnless, close_refusal, open_refusal, span_refusal}
use Rattle.span_registry_layers_store.specs.Laws.{IsSound}
use Rattle.span_registry_layers_store.specs.Registries.{PlainSpan, RegistryValue, kin_in, knows, one_less, under, with_entry, with_span}
use Rattle.span_registry_layers_store.specs.Registries.{without_handle}
use Rattle.span_registry_layers_store.specs.IdOrder.{IsRising}
use Rattle.span_registry_layers_store.specs.Spans.{changed, found}
use Rattle.span_registry_layers_store.specs.Views.{seen, seen_if}
use Rattle.span_registry_layers_store.specs.Views as views
use Rattle.span_registry_layers_layers.specs.Notices as notices
use Rattle.span_registry_layers_layers.specs.declared.filter.Filter.{Ghosts as FilterGhosts}
use Rattle.span_registry_layers_layers.specs.declared.layer.Layer.{Ghosts as LayerGhosts}
use Rattle.span_registry_layers.specs.Calls.{CloseUnless, MakesSpan, WhereTaken, over}
use Rattle.span_registry_layers.specs.SpanNotices.{TellsSpan}
use Rattle.span_registry_layers.specs.OutputSlots.{Afresh, AsksEventBy, EachBecomes}
use Rattle.span_registry_layers.specs.Stacks.{RowsInTurn, TellsAfresh, WhereKnown}
use Rattle.event_formatter_text.specs.declared.format_fields.FormatFields.{Ghosts}
use Rattle.event_formatter_text.specs.declared.settings.Settings.{Settings}
use Rattle.event_formatter_lines.specs.slots.FieldsAndTimings.{kept_at}
use Rattle.event_formatter.specs.formats.Contexts.{PlainContext}
use Rattle.event_formatter.specs.fmt_layer.LayerNotices.{LayerTold}
use Rattle.span_tracing_outputs.specs.LayerAgreement.{KeptAre, KeptBut, LayerFollows, none_excepted}
use Rattle.span_tracing_outputs.specs.OutputNotices.{Notice, enter_told, event_told, span_told, sweep_told}
use Rattle.span_tracing_outputs.specs.OutputMachines.{Entered, KeptSpan, Made, Recorded, kept_found}
use Rattle.span_tracing_outputs.specs.BufferedLines.{TakesLine}
use Rattle.span_tracing_outputs.specs.StackFollows.{CloseGoes, EventGoes, Goes, IfMade, IfTaken, LinedStack, SpanGoes, StackFollows}
use Rattle.span_tracing_outputs.specs.StackFollows.{made_in}
use Rattle.span_tracing_outputs.specs.Turns.{AreDistinct, EachFollows, EachFollowsBut, Lined, Lines, RowFollows, RowFollowsBut, keys_of}
use Rattle.span_tracing_outputs.specs.Turns.{own}
use Rattle.span_tracing_outputs.proofs.ClosedSpans.{each_lanes, exit_follows, sound_rising, sweep_follows}
use Rattle.span_tracing_outputs.proofs.KeptSpans.{seen_found}
use Rattle.span_tracing_outputs.proofs.MarkedRows.{event_marks, made_marks}
use Rattle.span_tracing_outputs.proofs.Rows.{events_bare, events_follow, mades_bare, mades_follow, spans_bare, spans_follow}

-- a span more
found_more : (xs : List PlainSpan) (new : PlainSpan) (other : ℕ) → (new.kin.id == other) ≡ false →
    found kin_in (xs ++ new ∷ []) other ≡ found kin_in xs other
found_more [] new other not = rw not refl
found_more (x ∷ xs) new other not = ap (λ (o : Option PlainSpan). if x.kin.id == other then Some x else o) (found_more xs new other not)

kept_with_more : (x : RegistryValue) (m : PlainMetadata) (parent : Option ℕ) (verdicts : List Bool) (mask : Option ℕ) (key : ℕ)
    (kept : List KeptSpan) → KeptAre x mask key kept →
    KeptBut (λ other. x.next_id == other) (with_span x m parent verdicts) mask key kept
kept_with_more x m parent verdicts mask key kept are other s not is =
    are other s refl (sym (ap (seen_if mask) (found_more x.spans _ other not)) ∙ is)

under_bare : (x : RegistryValue) (lane : ℕ) (parent : Parent) → under (bare x) lane parent ≡ under x lane parent
under_bare x lane Root = refl
under_bare x lane Current = refl
under_bare x lane (Explicit id) = refl

bare_with : (x : RegistryValue) (m : PlainMetadata) (parent : Option ℕ) (verdicts : List Bool) →
    bare (with_span x m parent verdicts) ≡ with_span (bare x) m parent verdicts
bare_with x m parent verdicts = ap (λ (ss : List PlainSpan). record x { spans = ss; next_id = x.next_id + 1 })
    (map-append bare_span x.spans _)

-- spans with other handles
pub record SameButHandles (t s : PlainSpan) : Type 0 where
  pub slots : t.slots ≡ s.slots
  pub id : t.kin.id ≡ s.kin.id
  pub passed : t.passed ≡ s.passed

abbrev Before : List PlainSpan → ℕ → PlainSpan → Type 0
Before xs other t = (s : PlainSpan) × (found kin_in xs other ≡ Some s) × SameButHandles t s

module _ (f : PlainSpan → PlainSpan) (alike : (s : PlainSpan) → SameButHandles (f s) s) where
  here_by : (c : Bool) (x t : PlainSpan) (xs : List PlainSpan) (other : ℕ) → (x.kin.id == other) ≡ c →
      (if (f x).kin.id == other then Some (f x) else found kin_in xs other) ≡ Some t → Before (x ∷ xs) other t
  here_by true x t xs other is e =
      let first : Some (f x) ≡ Some t = sym (rw (ap (λ (n : ℕ). n == other) (alike x).id ∙ is) refl) ∙ e in
      let same : t ≡ f x = cc in
      (x, rw is refl, subst (λ (z : PlainSpan). SameButHandles z x) (sym same) (alike x))
  here_by false x t xs other is e =
      let later : found kin_in xs other ≡ Some t = sym (rw (ap (λ (n : ℕ). n == other) (alike x).id ∙ is) refl) ∙ e in
      (t, rw is later, record { slots = refl; id = refl; passed = refl })

  there_by : (c : Bool) (x t : PlainSpan) (xs rest : List PlainSpan) (other : ℕ) → (x.kin.id == other) ≡ c →
      (found kin_in rest other ≡ Some t → Before xs other t) →
      (if c then Some x else found kin_in rest other) ≡ Some t → Before (x ∷ xs) other t
  there_by true x t xs rest other is before e = let same : t ≡ x = cc in
      (x, rw is refl, subst (λ (z : PlainSpan). SameButHandles z x) (sym same) (record { slots = refl; id = refl; passed = refl }))
  there_by false x t xs rest other is before e = let it = before e in (it.0, rw is it.1, it.2)

  changed_by : (b : Bool) (x t : PlainSpan) (xs rest : List PlainSpan) (other : ℕ) →
      (found kin_in rest other ≡ Some t → Before xs other t) →
      found kin_in (if b then f x ∷ xs else x ∷ rest) other ≡ Some t → Before (x ∷ xs) other t
  changed_by true x t xs rest other before e = here_by (x.kin.id == other) x t xs other refl e
  changed_by false x t xs rest other before e = there_by (x.kin.id == other) x t xs rest other refl before e

  found_before : (xs : List PlainSpan) (id other : ℕ) (t : PlainSpan) → found kin_in (changed kin_in f xs id) other ≡ Some t →
      Before xs other t
  found_before [] id other t e = absurd (cc)
  found_before (x ∷ xs) id other t e = changed_by (x.kin.id == id) x t xs (changed kin_in f xs id) other (found_before xs id other t) e

  sees_alike : (mask : Option ℕ) (t s : PlainSpan) → t.passed ≡ s.passed → views.sees mask t ≡ views.sees mask s
  sees_alike None t s same = refl
  sees_alike (Some number) t s same = ap (λ (ps : List Bool). Rattle.span_registry_layers_store.specs.Verdicts.passes_at ps number) same

  sees_true : (b : Bool) (t s : PlainSpan) → (if b then Some t else None) ≡ Some s → b ≡ true
  sees_true true t s e = refl
  sees_true false t s e = absurd (cc)

  seen_true : (mask : Option ℕ) (o : Option PlainSpan) (t : PlainSpan) → o ≡ Some t → seen_if mask o ≡ Some t → views.sees mask t ≡ true
  seen_true mask None t is e = absurd (cc)
  seen_true mask (Some s) t is e = let same : s ≡ t = cc in ap (views.sees mask) (sym same) ∙ sees_true (views.sees mask s) s t e

  pub kept_handled : (x : RegistryValue) (id : ℕ) (mask : Option ℕ) (key : ℕ) (kept : List KeptSpan) → KeptAre x mask key kept →
      KeptAre (record x { spans = changed kin_in f x.spans id }) mask key kept
  kept_handled x id mask key kept are other t none is =
      let there = seen_found mask (found kin_in (changed kin_in f x.spans id) other) t is in
      let it = found_before x.spans id other t there in
      let sees : views.sees mask it.0 ≡ true = sym (sees_alike mask t it.0 it.2.passed) ∙
      seen_true mask (found kin_in (changed kin_in f x.spans id) other) t there is in
      let seen_there : seen x mask other ≡ Some it.0 = ap (seen_if mask) it.1 ∙ rw sees refl in
      ap (kept_at key) it.2.slots ∙ are other it.0 refl seen_there ∙ ap (kept_found kept) (sym it.2.id)

less_alike : (s : PlainSpan) → SameButHandles (one_less s) s
less_alike s = record { slots = refl; id = refl; passed = refl }

module _ {N E F : Type 0} (n : Ghosts N) (line_of : E → Settings → PlainContext → PlainEvent → Option (List ℕ)) (g : FilterGhosts F) where
  row_handled : (x y : RegistryValue) (id : ℕ) (row later : Lined N E F) (ns : List Notice) →
      RowFollows n line_of g (without_handle x id) row ns y later → RowFollows n line_of g x row ns y later
  row_handled x y id row later ns a = record {
    fated = a.fated;
    told = a.told;
    number = a.number;
    config = a.config;
    starved = a.starved;
    filter = a.filter;
    agreed = λ o agrees. a.agreed o (
      agrees.0,
      kept_handled one_less less_alike x id (Some row.id.index) row.output.layer.config.key.0
          o.kept agrees.1,
    );
  }

  each_handled : (x y : RegistryValue) (id : ℕ) (ns : Lined N E F → List Notice) (rows later : List (Lined N E F)) →
      EachFollows n line_of g ns (without_handle x id) rows y later → EachFollows n line_of g ns x rows y later
  each_handled x y id ns [] [] follows = tt
  each_handled x y id ns [] (m ∷ ms) follows = absurd follows
  each_handled x y id ns (l ∷ ls) [] follows = absurd follows
  each_handled x y id ns (l ∷ ls) (m ∷ ms) follows = (row_handled x y id l m (ns l) follows.0, each_handled x y id ns ls ms follows.1)

  row_made : (x y : RegistryValue) (m : PlainMetadata) (parent : Option ℕ) (verdicts : List Bool) (row later : Lined N E F)
      (ns : List Notice) →
      RowFollowsBut n line_of g (λ other. x.next_id == other) (with_span x m parent verdicts) row ns y later →
      RowFollows n line_of g x row ns y later
  row_made x y m parent verdicts row later ns f = record {
    fated = f.fated;
    told = f.told;
    number = f.number;
    config = f.config;
    starved = f.starved;
    filter = f.filter;
    agreed = λ o agrees. f.agreed o (
      agrees.0,
      kept_with_more x m parent verdicts (Some row.id.index) row.output.layer.config.key.0 o.kept
          agrees.1,
    );
  }

  each_made : (x y : RegistryValue) (m : PlainMetadata) (parent : Option ℕ) (verdicts : List Bool) (ns : Lined N E F → List Notice)
      (rows later : List (Lined N E F)) →
      EachFollowsBut n line_of g (λ other. x.next_id == other) ns (with_span x m parent verdicts) rows y later →
      EachFollows n line_of g ns x rows y later
  each_made x y m parent verdicts ns [] [] follows = tt
  each_made x y m parent verdicts ns [] (l ∷ ls) follows = absurd follows
  each_made x y m parent verdicts ns (r ∷ rows) [] follows = absurd follows
  each_made x y m parent verdicts ns (r ∷ rows) (l ∷ ls) follows =
      (row_made x y m parent verdicts r l (ns r) follows.0, each_made x y m parent verdicts ns rows ls follows.1)

  -- the filters' answers are marked, and nothing else of an output changes
  keys_asked : (e : PlainEvent) (at : At) (x : RegistryValue) (rows asked : List (Lined N E F)) →
      EachBecomes (AsksEventBy g (Afresh g) e at x) rows asked → keys_of asked ≡ keys_of rows
  keys_asked e at x [] [] became = refl
  keys_asked e at x [] (a ∷ rest) became = absurd became
  keys_asked e at x (l ∷ ls) [] became = absurd became
  keys_asked e at x (l ∷ ls) (a ∷ rest) became =
      ap (λ (r : Lined N E F). r.output.layer.config.key.0 ∷ keys_of rest) became.0.2 ∙
      ap (λ (ks : List ℕ). l.output.layer.config.key.0 ∷ ks) (keys_asked e at x ls rest became.1)

  module _ (follow : LayerFollows n line_of own TakesLine)
      (h : LayerGhosts (Lines N E)) (says : (layer : Lines N E) (t : notices.Notice) (later : Lines N E) → h.told layer t later →
      LayerTold n line_of TakesLine layer t later) where
    event_by : (b : Bool) (s t : LinedStack N E F) (e : PlainEvent) (at : At) (r : Result (Unit {0}) RequestError) →
        AreDistinct (keys_of s.rows) → WhereKnown b s (TellsAfresh g h e at s) r t →
        WhereKnown b s (EventGoes n line_of g e at s) r t
    event_by true s t e at r distinct (reply, (asked, became, turns)) =
        let k = bare s.registry in
        let registry : asked.registry ≡ s.registry = ap (λ (z : LinedStack N E F). z.registry) became.1 in
        let keys : AreDistinct (keys_of asked.rows) = subst AreDistinct (sym (keys_asked e at s.registry s.rows asked.rows became.0))
        distinct in
        let follows = events_follow n line_of g follow h says e at k asked.registry asked.rows t.registry t.rows (ap bare registry) keys
        turns.0 in (
          reply,
          (
            asked.rows,
            became.0,
            subst (λ (x : RegistryValue). EachFollows n line_of g (λ row. event_told k at e row.told row.id.index) x asked.rows t.registry
                t.rows) registry follows,
            events_bare n line_of g follow h says e at asked.registry asked.rows t.registry t.rows turns.0 ∙ ap bare registry,
            event_marks g h e at asked.registry asked.rows t.registry t.rows turns.0,
          ),
        )
    event_by false s t e at r distinct (reply, same) = (reply, same)

    -- a call on a span of a registry with these spans
    call_goes : (c : _) (id : ℕ) (at : At) (x : RegistryValue) (s t : LinedStack N E F) → AreDistinct (keys_of s.rows) →
        x.spans ≡ s.registry.spans →
        RowsInTurn (TellsSpan g h (Rattle.span_tracing_outputs.specs.Turns.call_hook c id) id at) (over x s) t →
        EachFollowsBut n line_of g (Rattle.span_tracing_outputs.specs.LayerAgreement.is_new c id)
        (λ row. span_told (bare x) at c id row.id.index) x s.rows t.registry t.rows
        × (bare t.registry ≡ bare x)
    call_goes c id at x s t distinct same turns = (
      spans_follow n line_of g follow h says c id at (bare x) x s.rows t.registry t.rows refl distinct turns.0,
      spans_bare n line_of g follow h says c id at x s.rows t.registry t.rows turns.0,
    )

    values_goes : (s t : LinedStack N E F) (id : ℕ) (values : PlainValues) (at : At) (r : Result (Unit {0}) RequestError) →
        AreDistinct (keys_of s.rows) →
        WhereTaken r s (RowsInTurn (TellsSpan g h (Rattle.span_registry_layers_layers.specs.FilterViews.Recorded id values) id at) s) t →
        IfTaken r s (Goes n line_of g (span_told (bare s.registry) at (Recorded values) id) (bare s.registry) s t) t
    values_goes s t id values at (Ok done) distinct taken = call_goes (Recorded values) id at s.registry s t distinct refl taken
    values_goes s t id values at (Err e) distinct taken = taken

    entered : {A : Type 0} (o : Option RequestError) (x y left : RegistryValue) (answer given : A) →
        GivesUnless o x answer left (Ok given) y → y ≡ left
    entered None x y left answer given gives = gives.1
    entered (Some e) x y left answer given gives = absurd (wrong gives.0)
      where
        wrong : Ok given ≡ Err e → ⊥
        wrong w = absurd (cc)

    entry_goes : (s t : LinedStack N E F) (id : ℕ) (at : At) (r : Result (Unit {0}) RequestError) (x : RegistryValue) →
        AreDistinct (keys_of s.rows) → EntryGives s.registry at.lane id r x →
        WhereTaken r s (RowsInTurn (TellsSpan g h (Rattle.span_registry_layers_layers.specs.FilterViews.Entered id) id at) (over x s)) t →
        IfTaken r s (Goes n line_of g (enter_told (bare s.registry) at id) (with_entry (bare s.registry) at.lane id) s t) t
    entry_goes s t id at (Ok done) x distinct gives taken =
        let is : x ≡ with_entry s.registry at.lane id = entered (open_refusal s.registry id) s.registry x (with_entry s.registry at.lane id)
        tt done gives in
        let turns = subst (λ (z : RegistryValue). RowsInTurn
        (TellsSpan g h (Rattle.span_registry_layers_layers.specs.FilterViews.Entered id) id at) (over z s) t) is taken in
        let goes = call_goes Entered id at (with_entry s.registry at.lane id) s t distinct refl turns in (
          each_lanes n line_of g s.registry (with_entry s.registry at.lane id) t.registry
              (λ row. enter_told (bare s.registry) at id row.id.index) s.rows t.rows refl goes.0,
          goes.1,
        )
    entry_goes s t id at (Err e) x distinct gives taken = taken

    close_goes : (o : Option RequestError) (s t : LinedStack N E F) (id : ℕ) (at : At) (r : Bool) → IsSound s.registry →
        AreDistinct (keys_of s.rows) → CloseUnless g h o id at s r t → CloseGoes n line_of g o id at s t
    close_goes (Some e) s t id at r sound distinct gives = gives.1
    close_goes None s t id at r sound distinct gives =
        let k = without_handle (bare s.registry) id in
        let z = without_handle s.registry id in
        let same : bare z ≡ k = bare_less s.registry id in
        let goes = sweep_follows n line_of g follow h says k (over z s) t at
        (rising_less (bare s.registry) id (sound_rising s.registry sound)) same distinct gives.1 in
        (each_handled s.registry t.registry id (λ row. sweep_told k at row.id.index) s.rows t.rows goes.0, goes.1)
      where
        less_if : (b : Bool) (x : PlainSpan) (xs rest : List PlainSpan) → rest ≡ rest →
            map bare_span (if b then one_less x ∷ xs else x ∷ rest) ≡ (if b then one_less (bare_span x) ∷ map bare_span xs else bare_span
            x ∷ map bare_span rest)
        less_if true x xs rest e = refl
        less_if false x xs rest e = refl

        bare_changed : (xs : List PlainSpan) (m : ℕ) → map bare_span (changed kin_in one_less xs m) ≡ changed kin_in one_less
            (map bare_span xs) m
        bare_changed [] m = refl
        bare_changed (x ∷ xs) m = less_if (x.kin.id == m) x xs (changed kin_in one_less xs m) refl ∙
            ap (λ (rest : List PlainSpan). if x.kin.id == m then one_less (bare_span x) ∷ map bare_span xs else bare_span x ∷ rest)
            (bare_changed xs m)

        bare_less : (x : RegistryValue) (m : ℕ) → bare (without_handle x m) ≡ without_handle (bare x) m
        bare_less x m = ap (λ (ss : List PlainSpan). record x { spans = ss }) (bare_changed x.spans m)

        rising_less : (x : RegistryValue) (m : ℕ) → IsRising x → IsRising (without_handle x m)
        rising_less x m rising = Rattle.span_tracing_outputs.proofs.ClosedSpans.rising_handled x m rising

    made_goes : (s t : LinedStack N E F) (a : PlainAttributes) (at : At) (verdicts : List Bool) (r : Result (Option ℕ) RequestError) →
        AreDistinct (keys_of s.rows) → MakesSpan g h a at verdicts s r t →
        IfMade r s (λ id. SpanGoes n line_of g a at verdicts s id t) t
    made_goes s t a at verdicts r distinct (Ok id, x, gives, made) =
        subst (λ (q : Result (Option ℕ) RequestError). IfMade q s (λ id. SpanGoes n line_of g a at verdicts s id t) t) (sym made.0)
        (goes (span_refusal s.registry a.parent) refl gives)
      where
        goes : (o : Option RequestError) → span_refusal s.registry a.parent ≡ o →
            GivesUnless o s.registry s.registry.next_id (with_span s.registry a.metadata (under s.registry at.lane a.parent) verdicts)
            (Ok id) x →
            SpanGoes n line_of g a at verdicts s id t
        goes (Some e) is given = absurd (wrong given.0)
          where
            wrong : Ok id ≡ Err e → ⊥
            wrong w = absurd (cc)
        goes None is given =
            let k = bare s.registry in
            let parent = under s.registry at.lane a.parent in
            let wide = with_span s.registry a.metadata parent verdicts in
            let same : bare wide ≡ made_in n line_of g k a at verdicts = bare_with s.registry a.metadata parent verdicts ∙
            ap (λ (p : Option ℕ). with_span k a.metadata p verdicts) (sym (under_bare s.registry at.lane a.parent)) in
            let turns = subst (λ (m : ℕ). RowsInTurn
            (Rattle.span_registry_layers.specs.SpanNotices.TellsMade g h
            (Rattle.span_registry_layers_layers.specs.FilterViews.SpanMade a m) m at) (over wide s) t) given.0
            (subst (λ (z : RegistryValue). RowsInTurn
            (Rattle.span_registry_layers.specs.SpanNotices.TellsMade g h
            (Rattle.span_registry_layers_layers.specs.FilterViews.SpanMade a id) id at) (over z s) t) given.1 made.1) in
            let heard = mades_follow n line_of g follow h says (Made a) k.next_id at (made_in n line_of g k a at verdicts) wide s.rows
            t.registry t.rows same distinct turns.0 in (
              is,
              given.0,
              (
                each_made s.registry t.registry a.metadata parent verdicts
                    (λ row. span_told (made_in n line_of g k a at verdicts) at (Made a) k.next_id row.id.index) s.rows t.rows heard,
                mades_bare n line_of g follow h says (Made a) k.next_id at wide s.rows t.registry t.rows turns.0 ∙ same,
              ),
              made_marks g h (Rattle.span_registry_layers_layers.specs.FilterViews.SpanMade a id) id at
                  (λ x row y later told. mades_bare n line_of g follow h says (Made a) id at x (row ∷ []) y (later ∷ []) (y, told, refl))
                  (made_in n line_of g k a at verdicts) wide s.rows t.registry t.rows same
                  (subst (λ (z : RegistryValue). RowsInTurn
                  (Rattle.span_registry_layers.specs.SpanNotices.TellsMade g h
                  (Rattle.span_registry_layers_layers.specs.FilterViews.SpanMade a id) id at) (over z s) t) given.1 made.1).0,
            )
    made_goes s t a at verdicts r distinct (Err e, x, gives, made) =
        subst (λ (q : Result (Option ℕ) RequestError). IfMade q s (λ id. SpanGoes n line_of g a at verdicts s id t) t) (sym made.0) made.1

    pub stack_follows : StackFollows n line_of g h
    stack_follows = record {
      event = λ s t e at r distinct asked. event_by (knows s.registry (explicit_parent e.parent)) s t e at r distinct asked;
      span = made_goes;
      values = λ s t id values at r distinct gives. values_goes s t id values at r distinct gives.1;
      entry = λ s t id at r distinct gives. entry_goes s t id at r gives.0 distinct gives.1 gives.2;
      exit = λ s t id at sound distinct gives. exit_follows n line_of g follow h says s t id at sound distinct gives;
      close = λ s t id at r sound distinct gives. close_goes (close_refusal s.registry id) s t id at r sound distinct gives;
    }
