-- What the outputs of a stack are told of spans and events.
use Rattle.std.proofs.Common.{◌≡◌, ℕ, ◌==◌, List, [], ◌∷◌, Bool, true, false, Option, Some, None, is_some, refl, ap, sym, ◌∙◌, subst}
use Rattle.std.specs.Option.{option_map}
use Rattle.std.proofs.lemmas.Bool.{eqb-true}
use Rattle.tracing_core_fields.specs.requests.PlainRequests.{PlainEvent}
use Rattle.tracing_core_moments.specs.declared.at.At.{At}
use Rattle.span_registry_layers_store.specs.SlotIndependence.{SameButKeys, bare, bare_span}
use Rattle.span_registry_layers_store.specs.Registries.{PlainSpan, RegistryValue}
use Rattle.span_registry_layers_store.specs.Views.{seen}
use Rattle.span_registry_layers_layers.specs.FilterViews.{View}
use Rattle.span_registry_layers_layers.specs.Notices as notices
use Rattle.span_registry_layers_layers.specs.Notices.{Spanned}
use Rattle.span_registry_layers_layers.specs.Several.{EachInTurn}
use Rattle.span_registry_layers_layers.specs.declared.filter.Filter.{Ghosts as FilterGhosts}
use Rattle.span_registry_layers_layers.specs.declared.layer.Layer.{Ghosts as LayerGhosts}
use Rattle.span_registry_layers.specs.SpanNotices.{HearsIf, TellsMade, TellsSpan, with_output}
use Rattle.span_registry_layers.specs.SpanNotices as hearing
use Rattle.span_registry_layers.specs.OutputSlots.{TellsEvent, TellsIf, marked, view_of, with_layer}
use Rattle.event_formatter_text.specs.declared.format_fields.FormatFields.{Ghosts}
use Rattle.event_formatter_text.specs.declared.settings.Settings.{Settings}
use Rattle.event_formatter_lines.specs.slots.FieldsAndTimings.{kept_at}
use Rattle.event_formatter.specs.formats.Contexts.{PlainContext}
use Rattle.event_formatter.specs.fmt_layer.LayerNotices.{LayerTold}
use Rattle.span_tracing_outputs.specs.LayerAgreement.{FollowsBut, KeptBut, LayerFollows, call_of, is_new, none_excepted}
use Rattle.span_tracing_outputs.specs.OutputNotices.{Notice, call_told, event_told, heard_call, heard_event, span_told, view_under}
use Rattle.span_tracing_outputs.specs.OutputMachines.{Call, Closed, Entered, Heard, KeptSpan, Left, Made, Recorded, kept_found}
use Rattle.span_tracing_outputs.specs.BufferedLines.{TakesLine}
use Rattle.span_tracing_outputs.specs.Turns.{AreDistinct, EachFollows, EachFollowsBut, Lined, Lines, RowFollows, RowFollowsBut, call_hook}
use Rattle.span_tracing_outputs.specs.Turns.{keys_of, own}
use Rattle.span_tracing_outputs.proofs.KeptSpans.{seen_id}
use Rattle.span_tracing_outputs.proofs.Slotless.{call_heard, event_heard, seen_slotted}
use Rattle.span_tracing_outputs.proofs.Turns.{row_one, row_stays, turns_bare, turns_follow}

call_again : (c : Call) (id : ℕ) (v : View) → call_of (call_hook c id v) ≡ c
call_again (Made a) id v = refl
call_again (Recorded values) id v = refl
call_again Entered id v = refl
call_again Left id v = refl
call_again Closed id v = refl

-- a span that isn't seen has nothing kept that is looked at
kept_unseen : (c : Call) (x : RegistryValue) (mask : Option ℕ) (key id : ℕ) (kept : List KeptSpan) → seen x mask id ≡ None →
    KeptBut (is_new c id) x mask key kept → KeptBut none_excepted x mask key kept
kept_unseen (Made a) x mask key id kept none are other s not is = by (id == other) refl
  where
    by : (b : Bool) → (id == other) ≡ b → kept_at key s.slots ≡ kept_found kept s.kin.id
    by true e = let there : None ≡ Some s = sym none ∙ ap (λ (m : ℕ). seen x mask m) (eqb-true id other e) ∙ is in absurd (cc)
    by false e = are other s e is
kept_unseen (Recorded values) x mask key id kept none are other s not is = are other s not is
kept_unseen Entered x mask key id kept none are other s not is = are other s not is
kept_unseen Left x mask key id kept none are other s not is = are other s not is
kept_unseen Closed x mask key id kept none are other s not is = are other s not is

not_seen : (o : Option PlainSpan) → is_some o ≡ false → o ≡ None
not_seen None e = refl
not_seen (Some s) e = absurd (cc)

the_seen : (o : Option PlainSpan) → is_some o ≡ true → (s : PlainSpan) × (o ≡ Some s)
the_seen None e = absurd (cc)
the_seen (Some s) e = (s, refl)

module _ {N E F : Type 0} (n : Ghosts N) (line_of : E → Settings → PlainContext → PlainEvent → Option (List ℕ)) (g : FilterGhosts F)
    (follow : LayerFollows n line_of own TakesLine)
    (h : LayerGhosts (Lines N E)) (says : (layer : Lines N E) (t : notices.Notice) (later : Lines N E) → h.told layer t later →
    LayerTold n line_of TakesLine layer t later) where
  -- a call on a span
  module _ (c : Call) (id : ℕ) (at : At) where
    -- nothing is told where the span isn't seen
    none_told : (x : RegistryValue) (number : ℕ) → seen x (Some number) id ≡ None → span_told (bare x) at c id number ≡ []
    none_told x number none = ap (λ (o : Option PlainSpan). call_told o (bare x) at c number) (seen_slotted (λ ps. []) x (Some number) id ∙
        ap (option_map bare_span) none)

    one_told : (x : RegistryValue) (number : ℕ) (s : PlainSpan) → seen x (Some number) id ≡ Some s →
        span_told (bare x) at c id number ≡ (record { heard = heard_call (view_under at x number) s c; within = bare x }) ∷ []
    one_told x number s is =
        ap (λ (o : Option PlainSpan). call_told o (bare x) at c number) (seen_slotted (λ ps. []) x (Some number) id ∙
        ap (option_map bare_span) is)
        ∙ ap (λ (heard : Heard). (record { heard = heard; within = bare x }) ∷ []) (call_heard (λ ps. []) (view_under at x number) s c)

    hears_by : (b : Bool) (x y : RegistryValue) (row later : Lined N E F) → hearing.sees x id row ≡ b →
        HearsIf g h b id (call_hook c id) (view_of at x row) row y later →
        RowFollowsBut n line_of g (is_new c id) x row (span_told (bare x) at c id row.id.index) y later
    hears_by false x y row later sees w =
        let none = not_seen (seen x (Some row.id.index) id) sees in
        subst (λ (ns : List Notice). RowFollowsBut n line_of g (is_new c id) x row ns y later) (sym (none_told x row.id.index none))
        (subst (λ (m : Lined N E F). RowFollowsBut n line_of g (is_new c id) x row [] y m) (sym w.0)
        (subst (λ (z : RegistryValue). RowFollowsBut n line_of g (is_new c id) x row [] z row) (sym w.1)
        (record {
          fated = [];
          told = refl;
          number = refl;
          config = refl;
          starved = refl;
          filter = refl;
          agreed = λ o agrees. (agrees.0, kept_unseen c x (Some row.id.index) row.output.layer.config.key.0 id o.kept none agrees.1);
        })))
    hears_by true x y row later sees w =
        let it = the_seen (seen x (Some row.id.index) id) sees in
        let v = view_of at x row in
        let told = says row.output.layer (Spanned id (call_hook c id) v y) later.output.layer w.0 in
        let again = call_again c id v in
        let own_id : s_id it.0 ≡ id = seen_id x (Some row.id.index) id it.0 it.1 in
        let follows : FollowsBut n line_of own (is_new c id) row.output.layer v (heard_call v it.0 c) y later.output.layer =
        subst (λ (d : Call). FollowsBut n line_of own (is_new d id) row.output.layer v (heard_call v it.0 d) y later.output.layer) again
        (follow.calls row.output.layer (call_hook c id v) id it.0 v y later.output.layer it.1 told.2) in
        subst (λ (ns : List Notice). RowFollowsBut n line_of g (is_new c id) x row ns y later) (sym (one_told x row.id.index it.0 it.1))
        (subst (λ (m : Lined N E F). RowFollowsBut n line_of g (is_new c id) x row
        ((record { heard = heard_call v it.0 c; within = bare x }) ∷ []) y m) (sym w.1)
        (row_one n line_of g (is_new c id) x y at row (g.after row.output.filter (call_hook c id v)) later.output.layer
        (heard_call v it.0 c) refl told.0 follows
        (ap (λ (m : ℕ). g.after row.output.filter (call_hook c m v)) (sym own_id))))
      where
        s_id : PlainSpan → ℕ
        s_id s = s.kin.id

    span_follows : (k x : RegistryValue) (row : Lined N E F) (y : RegistryValue) (later : Lined N E F) → bare x ≡ k →
        TellsSpan g h (call_hook c id) id at x row y later →
        RowFollowsBut n line_of g (is_new c id) x row (span_told k at c id row.id.index) y later
    span_follows k x row y later is w =
        subst (λ (z : RegistryValue). RowFollowsBut n line_of g (is_new c id) x row (span_told z at c id row.id.index) y later) is
        (hears_by (hearing.sees x id row) x y row later refl w)

    writes_by : (b : Bool) (x y : RegistryValue) (row later : Lined N E F) →
        HearsIf g h b id (call_hook c id) (view_of at x row) row y later → SameButKeys (λ key. key == row.output.layer.config.key.0) x y
    writes_by false x y row later w = subst (SameButKeys (λ key. key == row.output.layer.config.key.0) x) (sym w.1) (refl, λ key not. refl)
    writes_by true x y row later w = (says row.output.layer (Spanned id (call_hook c id) (view_of at x row) y) later.output.layer w.0).1

    span_writes : (x : RegistryValue) (row : Lined N E F) (y : RegistryValue) (later : Lined N E F) →
        TellsSpan g h (call_hook c id) id at x row y later → SameButKeys (λ key. key == row.output.layer.config.key.0) x y
    span_writes x row y later w = writes_by (hearing.sees x id row) x y row later w

    -- each output that sees the span goes through the notice
    pub spans_follow : (k x : RegistryValue) (rows : List (Lined N E F)) (y : RegistryValue) (later : List (Lined N E F)) → bare x ≡ k →
        AreDistinct (keys_of rows) →
        EachInTurn (TellsSpan g h (call_hook c id) id at) x rows y later →
        EachFollowsBut n line_of g (is_new c id) (λ row. span_told k at c id row.id.index) x rows y later
    spans_follow k x rows y later is distinct turns =
        turns_follow n line_of g (is_new c id) (TellsSpan g h (call_hook c id) id at) k (λ row. span_told k at c id row.id.index)
        (span_follows k) span_writes x rows y later is distinct turns

    pub spans_bare : (x : RegistryValue) (rows : List (Lined N E F)) (y : RegistryValue) (later : List (Lined N E F)) →
        EachInTurn (TellsSpan g h (call_hook c id) id at) x rows y later → bare y ≡ bare x
    spans_bare x rows y later turns =
        turns_bare n line_of g (is_new c id) (TellsSpan g h (call_hook c id) id at) (bare x)
        (λ row. span_told (bare x) at c id row.id.index) (span_follows (bare x)) span_writes x rows y later turns

    -- the same of a span that was made, with marks
    unmarked_row : (x y : RegistryValue) (b : Bool) (row later : Lined N E F) (ns : List Notice) →
        RowFollowsBut n line_of g (is_new c id) x (marked b row) ns y later → RowFollowsBut n line_of g (is_new c id) x row ns y later
    unmarked_row x y b row later ns f =
        record {
          fated = f.fated;
          told = f.told;
          number = f.number;
          config = f.config;
          starved = f.starved;
          filter = f.filter;
          agreed =
              λ o agrees. f.agreed o agrees;
        }

    made_follows : (k x : RegistryValue) (row : Lined N E F) (y : RegistryValue) (later : Lined N E F) → bare x ≡ k →
        TellsMade g h (call_hook c id) id at x row y later →
        RowFollowsBut n line_of g (is_new c id) x row (span_told k at c id row.id.index) y later
    made_follows k x row y later is w =
        unmarked_row x y (hearing.sees x id row) row later (span_told k at c id row.id.index)
        (span_follows k x (marked (hearing.sees x id row) row) y later is w)

    pub mades_follow : (k x : RegistryValue) (rows : List (Lined N E F)) (y : RegistryValue) (later : List (Lined N E F)) → bare x ≡ k →
        AreDistinct (keys_of rows) →
        EachInTurn (TellsMade g h (call_hook c id) id at) x rows y later →
        EachFollowsBut n line_of g (is_new c id) (λ row. span_told k at c id row.id.index) x rows y later
    mades_follow k x rows y later is distinct turns =
        turns_follow n line_of g (is_new c id) (TellsMade g h (call_hook c id) id at) k (λ row. span_told k at c id row.id.index)
        (made_follows k)
        (λ x row y later w. span_writes x (marked (hearing.sees x id row) row) y later w) x rows y later is distinct turns

    pub mades_bare : (x : RegistryValue) (rows : List (Lined N E F)) (y : RegistryValue) (later : List (Lined N E F)) →
        EachInTurn (TellsMade g h (call_hook c id) id at) x rows y later → bare y ≡ bare x
    mades_bare x rows y later turns =
        turns_bare n line_of g (is_new c id) (TellsMade g h (call_hook c id) id at) (bare x)
        (λ row. span_told (bare x) at c id row.id.index) (made_follows (bare x))
        (λ x row y later w. span_writes x (marked (hearing.sees x id row) row) y later w) x rows y later turns

  -- an event
  event_by : (b : Bool) (e : PlainEvent) (at : At) (x y : RegistryValue) (row : Lined N E F) (layer : Lines N E) →
      TellsIf h b row.output.layer (notices.Happened e) (view_of at x row) y layer →
      RowFollows n line_of g x row (event_told (bare x) at e b row.id.index) y (with_layer layer row)
  event_by false e at x y row layer w = subst (λ (l : Lines N E). RowFollows n line_of g x row [] y (with_layer l row)) (sym w.0)
      (row_stays n line_of g x y row row refl w.1)
  event_by true e at x y row layer w =
      let v = view_of at x row in
      let told = says row.output.layer (notices.Happened e v y) layer w in
      subst (λ (heard : Heard). RowFollows n line_of g x row ((record { heard = heard; within = bare x }) ∷ []) y (with_layer layer row))
      (sym (event_heard (λ ps. []) v e))
      (row_one n line_of g none_excepted x y at row row.output.filter layer (heard_event v e) refl told.0
      (subst (λ (z : RegistryValue). FollowsBut n line_of own none_excepted row.output.layer v (heard_event v e) z layer) (sym told.2.0)
      (follow.events row.output.layer v e layer told.2.1)) refl)

  event_follows : (e : PlainEvent) (at : At) (k x : RegistryValue) (row : Lined N E F) (y : RegistryValue) (later : Lined N E F) →
      bare x ≡ k → TellsEvent h e at x row y later →
      RowFollows n line_of g x row (event_told k at e row.told row.id.index) y later
  event_follows e at k x row y later is w =
      subst (λ (z : RegistryValue). RowFollows n line_of g x row (event_told z at e row.told row.id.index) y later) is
      (subst (λ (m : Lined N E F). RowFollows n line_of g x row (event_told (bare x) at e row.told row.id.index) y m) (sym w.1)
      (event_by row.told e at x y row later.output.layer w.0))

  event_writes_by : (b : Bool) (e : PlainEvent) (at : At) (x y : RegistryValue) (row : Lined N E F) (layer : Lines N E) →
      TellsIf h b row.output.layer (notices.Happened e) (view_of at x row) y layer →
      SameButKeys (λ key. key == row.output.layer.config.key.0) x y
  event_writes_by false e at x y row layer w = subst (SameButKeys (λ key. key == row.output.layer.config.key.0) x) (sym w.1)
      (refl, λ key not. refl)
  event_writes_by true e at x y row layer w = (says row.output.layer (notices.Happened e (view_of at x row) y) layer w).1

  pub events_follow : (e : PlainEvent) (at : At) (k x : RegistryValue) (rows : List (Lined N E F)) (y : RegistryValue)
      (later : List (Lined N E F)) → bare x ≡ k → AreDistinct (keys_of rows) →
      EachInTurn (TellsEvent h e at) x rows y later → EachFollows n line_of g (λ row. event_told k at e row.told row.id.index) x rows y
      later
  events_follow e at k x rows y later is distinct turns =
      turns_follow n line_of g none_excepted (TellsEvent h e at) k (λ row. event_told k at e row.told row.id.index) (event_follows e at k)
      (λ x row y later w. event_writes_by row.told e at x y row later.output.layer w.0) x rows y later is distinct turns

  pub events_bare : (e : PlainEvent) (at : At) (x : RegistryValue) (rows : List (Lined N E F)) (y : RegistryValue)
      (later : List (Lined N E F)) → EachInTurn (TellsEvent h e at) x rows y later → bare y ≡ bare x
  events_bare e at x rows y later turns =
      turns_bare n line_of g none_excepted (TellsEvent h e at) (bare x) (λ row. event_told (bare x) at e row.told row.id.index)
      (event_follows e at (bare x))
      (λ x row y later w. event_writes_by row.told e at x y row later.output.layer w.0) x rows y later turns
