-- What a layer does with what it is told is a step of an output machine.
use Rattle.std.proofs.Common.{◌≡◌, ◌==◌, ◌&&◌, ℕ, Bool, true, false, if◌then◌else◌, List, ◌∷◌, map, Option, Some, None, Result, codes, refl}
use Rattle.std.proofs.Common.{ap, sym, ◌∙◌, subst}
use Rattle.std.specs.Option.{option_map}
use Rattle.std.specs.declared.io.Error.{Error}
use Rattle.tracing_core_fields.specs.PlainMetadata.{PlainMetadata}
use Rattle.tracing_core_fields.specs.PlainValue.{PlainValue}
use Rattle.tracing_core_fields.specs.requests.PlainRequests.{PlainAttributes, PlainEvent, PlainValues}
use Rattle.span_registry_layers_store.specs.SlotIndependence.{bare}
use Rattle.span_registry_layers_store.specs.Registries.{PlainSpan, RegistryValue}
use Rattle.span_registry_layers_store.specs.Views.{first_of, seen}
use Rattle.span_registry_layers_store.specs.declared.slot.Timings.{Timings}
use Rattle.span_registry_layers_layers.specs.Contexts.{event_span, lane_span, metadata_in, span_in}
use Rattle.span_registry_layers_layers.specs.FilterViews as looks
use Rattle.span_registry_layers_layers.specs.FilterViews.{Hook, View, seeing}
use Rattle.event_formatter_text.specs.declared.format_fields.FormatFields.{Ghosts}
use Rattle.event_formatter_text.specs.declared.settings.Settings.{Settings}
use Rattle.event_formatter_lines.specs.times.SpanTimings.{at_start}
use Rattle.event_formatter_lines.specs.slots.FieldsAndTimings.{PlainKept, is_whole, kept_first, kept_more}
use Rattle.event_formatter_lines.specs.declared.slots.first_text.FirstText.{FirstText}
use Rattle.event_formatter_lines.specs.declared.slots.first_text.FirstText.TheVariants as first
use Rattle.event_formatter_lines.specs.slots.SpanUpdates.{KeptAfter, RekeepingIsLocal, Rekeeps, kept_in, kept_with}
use Rattle.event_formatter_lines.specs.slots.SteppedTimings.{kept_stepped}
use Rattle.event_formatter_lines.specs.declared.slots.timings.TimingStep.{TimingStep}
use Rattle.event_formatter_lines.specs.declared.slots.timings.TimingStep.TheVariants as step
use Rattle.event_formatter.specs.formats.Contexts.{PlainContext}
use Rattle.event_formatter.specs.formats.Scopes.{loose_leaf, shown_scope}
use Rattle.event_formatter.specs.fmt_layer.SpanCalls.{HearsClose, HearsNew, HearsRecord, HearsStep, TellsCloseIf, having_missed}
use Rattle.event_formatter.specs.fmt_layer.Layers.{SameLayer, TellsEvent}
use Rattle.event_formatter.specs.fmt_layer.SpanEvents.{TellsClose, TellsOf, TellsSpan, TellsSpanIf, close_entries, close_names}
use Rattle.event_formatter.specs.fmt_layer.SpanEvents.{message_entries, message_names, span_event}
use Rattle.event_formatter.specs.fmt_layer.LayerNotices.{HookTold}
use Rattle.event_formatter.specs.declared.fmt_layer.layer.Config.{Config}
use Rattle.event_formatter.specs.declared.fmt_layer.layer.Layer.{Layer}
use Rattle.span_tracing_outputs.specs.LayerAgreement.{Agrees, AgreesBut, FollowsBut, KeptAre, KeptBut, Keeps, LayerFollows, Matches}
use Rattle.span_tracing_outputs.specs.LayerAgreement.{call_of, is_new, none_excepted}
use Rattle.span_tracing_outputs.specs.OutputNotices.{heard_call, heard_event}
use Rattle.span_tracing_outputs.specs.OutputMachines.{Call, Fate, Heard, KeptSpan, PlainLine, PlainOut, close_event, event_if, keeping}
use Rattle.span_tracing_outputs.specs.OutputMachines.{kept_found, kept_of_more, kept_of_new, message_event, missed_after, shown_with}
use Rattle.span_tracing_outputs.proofs.KeptSpans.{from_alike, kept_now, scope_shown, seen_id, was_seen}
use Rattle.span_tracing_outputs.proofs.EventLines.{EventTold, ShowsScopes, event_told}

module _ {N E W : Type 0} (g : Ghosts N) (line_of : E → Settings → PlainContext → PlainEvent → Option (List ℕ)) (lines_in : W →
    List PlainLine)
    (writes : W → PlainMetadata → List ℕ → Result (Unit {0}) Error → W → Type 0)
    (keeps : (x : W) (m : PlainMetadata) (line : List ℕ) (answer : Result (Unit {0}) Error) (y : W) → writes x m line answer y →
    Keeps lines_in x m line answer y) where
  -- an event is one step
  pub event_follows : (x : Layer N E W) (v : View) (e : PlainEvent) (y : Layer N E W) → TellsEvent g.text_of line_of writes x v e y →
      FollowsBut g line_of lines_in none_excepted x v (heard_event v e) v.registry y
  event_follows x v e y tells =
      let told : EventTold lines_in writes keeps g line_of x y v e = event_told lines_in writes keeps g line_of x y v e tells in
      record {
        fate = record { text = first.Whole; line = told.whole };
        starved = told.starved;
        agreed = λ o agrees. (
          told.matches o (heard_event v e) agrees.0 (record {
            at = refl;
            loose = scope_shown v x.config.key.0 o.kept agrees.1 (loose_leaf v e.parent);
            strict = scope_shown v x.config.key.0 o.kept agrees.1 (event_span v e.parent);
          }),
          subst (λ (c : Config N). KeptAre v.registry v.mask c.key.0 o.kept) (sym told.config) agrees.1,
        );
      }

  -- a call on a span that is seen, which writes slots alone
  module _ (v : View) (left : RegistryValue) (s : PlainSpan) (is : seen v.registry v.mask s.kin.id ≡ Some s)
      (same : bare left ≡ bare v.registry) where
    -- an event of the span was told, where it was asked for
    pub record SpanTold (x y : Layer N E W) (b : Bool) (e : PlainEvent) : Type 0 where
      pub whole : Bool
      pub starved : y.output.starved ≡ missed_after whole x.output.starved
      pub config : y.config ≡ x.config
      pub matches : (o : PlainOut N) (h : Heard) → Matches g line_of lines_in x o →
          ShowsScopes lines_in writes keeps g line_of (seeing left v) x.config.key.0 e h o →
          Matches g line_of lines_in y (event_if g b o h e whole)

    -- an event that isn't told leaves the layer
    pub untold : (x y : Layer N E W) (e : PlainEvent) → SameLayer x y → SpanTold x y false e
    untold x y e stays =
        record {
          whole = true;
          starved = stays.4;
          config = stays.0;
          matches = λ o h matches shows. record {
            config = stays.0 ∙ matches.config;
            format = λ st c p. ap (λ (f : E). line_of f st c p) stays.1 ∙ matches.format st c p;
            lanes = ap (λ t. Rattle.event_formatter.specs.fmt_layer.Threads.plain_lanes t) stays.2 ∙ matches.lanes;
            longest = ap (λ t. t.longest) stays.2 ∙ matches.longest;
            lines = ap lines_in stays.3 ∙ matches.lines;
          };
        }

    now : (t : PlainSpan) × (seen left v.mask s.kin.id ≡ Some t) × (s.kin ≡ t.kin) × (s.metadata ≡ t.metadata)
    now = was_seen left v.registry v.mask s.kin.id s (sym same) is

    found_metadata : option_map metadata_in (span_in (seeing left v) s.kin.id) ≡ Some s.metadata
    found_metadata = ap (option_map metadata_in) now.1 ∙ ap Some (sym now.3)

    pub told : (x y : Layer N E W) (names : List (List ℕ)) (entries : List (ℕ × PlainValue)) →
        TellsSpan g.text_of line_of writes x (seeing left v) s.kin.id names entries y →
        SpanTold x y true (span_event s.metadata s.kin.id names entries)
    told x y names entries tells =
        let it = event_told lines_in writes keeps g line_of x y (seeing left v) (span_event s.metadata s.kin.id names entries)
        (subst (λ (m : Option PlainMetadata). TellsOf g.text_of line_of writes m x (seeing left v) s.kin.id names entries y) found_metadata
        tells) in
        record { whole = it.whole; starved = it.starved; config = it.config; matches = it.matches }

    pub told_if : (b : Bool) (x y : Layer N E W) (names : List (List ℕ)) (entries : List (ℕ × PlainValue)) →
        TellsSpanIf g.text_of line_of writes b x (seeing left v) s.kin.id names entries y →
        SpanTold x y b (span_event s.metadata s.kin.id names entries)
    told_if true x y names entries tells = told x y names entries tells
    told_if false x y names entries tells = untold x y (span_event s.metadata s.kin.id names entries) tells

    -- a close is told with the timings where there are any
    close_told : (timings : Option Timings) (x y : Layer N E W) → TellsClose g.text_of line_of writes timings x (seeing left v) s.kin.id y →
        SpanTold x y true (close_event g s.metadata s.kin.id timings)
    close_told None x y tells = told x y message_names (message_entries (codes "close")) tells
    close_told (Some timings) x y tells = told x y close_names (close_entries timings) tells

    pub close_told_if : (b : Bool) (timings : Option Timings) (x y : Layer N E W) →
        TellsCloseIf g line_of writes b timings x (seeing left v) s.kin.id y →
        SpanTold x y b (close_event g s.metadata s.kin.id timings)
    close_told_if true timings x y tells = close_told timings x y tells
    close_told_if false timings x y tells = untold x y (close_event g s.metadata s.kin.id timings) tells

    -- the scopes of an event of the span
    own_scopes : (o : PlainOut N) (key : ℕ) (call : Call) (names : List (List ℕ)) (entries : List (ℕ × PlainValue)) →
        KeptAre left v.mask key o.kept →
        ShowsScopes lines_in writes keeps g line_of (seeing left v) key (span_event s.metadata s.kin.id names entries) (heard_call v s call)
        o
    own_scopes o key call names entries are =
        let w = seeing left v in
        let shown : shown_scope w key (Some now.0) ≡ map (shown_with o.kept) (heard_call v s call).strict =
        scope_shown w key o.kept are (Some now.0) ∙
        ap (map (shown_with o.kept)) (from_alike v left s now.0 same (ap (λ k. k.id) (sym now.2))) in
        record {
          at = refl;
          loose = ap (λ (f : Option PlainSpan). shown_scope w key (first_of f (lane_span w))) now.1 ∙ shown;
          strict = ap (λ (f : Option PlainSpan). shown_scope w key f) now.1 ∙ shown;
        }

    close_scopes : (o : PlainOut N) (key : ℕ) (call : Call) (timings : Option Timings) → KeptAre left v.mask key o.kept →
        ShowsScopes lines_in writes keeps g line_of (seeing left v) key (close_event g s.metadata s.kin.id timings) (heard_call v s call) o
    close_scopes o key call None are = own_scopes o key call message_names (message_entries (codes "close")) are
    close_scopes o key call (Some timings) are = own_scopes o key call close_names (close_entries timings) are

    kept_if : (b : Bool) (o : PlainOut N) (h : Heard) (e : PlainEvent) (whole : Bool) (key : ℕ) → KeptAre left v.mask key o.kept →
        KeptAre left v.mask key (event_if g b o h e whole).kept
    kept_if true o h e whole key are = are
    kept_if false o h e whole key are = are

    -- the layer goes to the output's step, where what the span keeps was written before its event was told
    module _ (x : Layer N E W) (local : RekeepingIsLocal) (written : PlainKept) (rekept : Rekeeps v s.kin.id x.config.key.0 written left)
        (but : ℕ → Bool) (excepted : (other : ℕ) → (s.kin.id == other) ≡ false → but other ≡ false) where
      after : KeptAfter v s.kin.id x.config.key.0 written left
      after = local v s.kin.id x.config.key.0 written left rekept

      kept_written : (o : PlainOut N) (kept : PlainKept) → written ≡ kept → KeptBut but v.registry v.mask x.config.key.0 o.kept →
          KeptAre left v.mask x.config.key.0 (keeping g o s.kin.id kept).kept
      kept_written o kept is_it are =
          subst (λ (k : PlainKept). KeptAre left v.mask x.config.key.0 ((record { id = s.kin.id; kept = k }) ∷ o.kept)) is_it
          (kept_now v s.kin.id x.config.key.0 written left o.kept but same after excepted are)

      still : (x1 : Layer N E W) (o : PlainOut N) (kept : PlainKept) → Matches g line_of lines_in x1 o →
          Matches g line_of lines_in x1 (keeping g o s.kin.id kept)
      still x1 o kept m = record { config = m.config; format = m.format; lanes = m.lanes; longest = m.longest; lines = m.lines }

      -- the event shows the span's own scope
      abbrev Shows : PlainEvent → Heard → Type 0
      Shows e h = (o : PlainOut N) → KeptAre left v.mask x.config.key.0 o.kept →
          ShowsScopes lines_in writes keeps g line_of (seeing left v) x.config.key.0 e h o

      pub finished : (x1 y : Layer N E W) (b : Bool) (e : PlainEvent) (h : Heard) (o : PlainOut N) (kept : PlainKept) →
          x1.config ≡ x.config → Shows e h →
          (it : SpanTold x1 y b e) → written ≡ kept → Matches g line_of lines_in x1 o →
          KeptBut but v.registry v.mask x.config.key.0 o.kept →
          Agrees g line_of lines_in left v.mask y (event_if g b (keeping g o s.kin.id kept) h e it.whole)
      finished x1 y b e h o kept config shows it is_it m are =
          let there = kept_written o kept is_it are in (
            it.matches (keeping g o s.kin.id kept) h (still x1 o kept m)
                (subst (λ (c : Config N). ShowsScopes lines_in writes keeps g line_of (seeing left v) c.key.0 e h
                (keeping g o s.kin.id kept)) (sym config) (shows (keeping g o s.kin.id kept) there)),
            subst (λ (c : Config N). KeptAre left v.mask c.key.0 (event_if g b (keeping g o s.kin.id kept) h e it.whole).kept)
                (sym (it.config ∙ config))
                (kept_if b (keeping g o s.kin.id kept) h e it.whole x.config.key.0 there),
          )

    missed_matches : (whole : Bool) (x : Layer N E W) (o : PlainOut N) → Matches g line_of lines_in x o →
        Matches g line_of lines_in (having_missed whole x) o
    missed_matches true x o m = m
    missed_matches false x o m = record { config = m.config; format = m.format; lanes = m.lanes; longest = m.longest; lines = m.lines }

    missed_config : (whole : Bool) (x : Layer N E W) → (having_missed whole x).config ≡ x.config
    missed_config true x = refl
    missed_config false x = refl

    missed_starved : (whole : Bool) (x : Layer N E W) → (having_missed whole x).output.starved ≡ missed_after whole x.output.starved
    missed_starved true x = refl
    missed_starved false x = refl

    -- what is kept with the span before
    kept_before : (key : ℕ) (kept : List KeptSpan) → KeptAre v.registry v.mask key kept → kept_in v s.kin.id key ≡ kept_found kept s.kin.id
    kept_before key kept are = ap (kept_with key) is ∙ are s.kin.id s refl is

    pub new_follows : (local : RekeepingIsLocal) (x y : Layer N E W) (a : PlainAttributes) (own : ℕ) (w : View) →
        HearsNew g line_of writes x v s.kin.id a left y →
        FollowsBut g line_of lines_in (λ other. s.kin.id == other) x v (heard_call v s (call_of (looks.SpanMade a own w))) left y
    new_follows local x y a own w hears =
        let text = hears.0 in
        let whole = is_whole text in
        let call = call_of (looks.SpanMade a own w) in
        let it = told_if x.config.span_events.new (having_missed whole x) y message_names (message_entries (codes "new")) hears.3 in
        record {
          fate = record { text = text; line = it.whole };
          starved = it.starved ∙ ap (missed_after it.whole) (missed_starved whole x);
          agreed = λ o agrees. subst (λ (b : Bool). Agrees g line_of lines_in left v.mask y
              (event_if g b (keeping g o s.kin.id (kept_of_new g o v.at a.values text)) (heard_call v s call)
              (message_event g s.metadata s.kin.id (codes "new")) it.whole))
              (ap (λ (c : Config N). c.span_events.new) agrees.0.config)
              (finished x local
              (kept_first text (λ kept. g.added x.config.fields kept a.values) (g.started x.config.fields x.config.settings)
              (first_of_all x))
              hears.2 (λ other. s.kin.id == other) (λ other not. not)
              (having_missed whole x) y x.config.span_events.new (message_event g s.metadata s.kin.id (codes "new")) (heard_call v s call) o
              (kept_of_new g o v.at a.values text) (missed_config whole x)
              (λ p are. own_scopes p x.config.key.0 call message_names (message_entries (codes "new")) are)
              it
              (ap (λ (c : Config N). kept_first text (λ kept. g.added c.fields kept a.values) (g.started c.fields c.settings) (timed c))
              agrees.0.config)
              (missed_matches whole x o agrees.0) agrees.1);
        }
      where
        timed : Config N → Option Timings
        timed c = if c.span_events.close && c.has_timer then Some (at_start v.at.seconds v.at.nanoseconds) else None

        first_of_all : Layer N E W → Option Timings
        first_of_all z = timed z.config

    pub record_follows : (local : RekeepingIsLocal) (x y : Layer N E W) (own : ℕ) (values : PlainValues) (w : View) →
        HearsRecord g x v s.kin.id values left y →
        FollowsBut g line_of lines_in none_excepted x v (heard_call v s (call_of (looks.Recorded own values w))) left y
    record_follows local x y own values w hears =
        let whole = hears.0 in
        let e = message_event g s.metadata s.kin.id (codes "new") in
        let call = call_of (looks.Recorded own values w) in
        let it = untold (having_missed whole x) y e hears.3 in
        record {
          fate = record { text = text_of_all whole; line = true };
          starved = hears.3.4 ∙ missed_starved whole x ∙ ap (λ (b : Bool). missed_after b x.output.starved) (sym (whole_again whole));
          agreed = λ o agrees. subst (λ (b : Bool). Agrees g line_of lines_in left v.mask y
              (keeping g o s.kin.id (kept_of_more g o s.kin.id values b))) (sym (whole_again whole))
              (finished x local (kept_more whole (λ kept. g.added x.config.fields kept values) (g.started x.config.fields x.config.settings)
              (kept_in v s.kin.id x.config.key.0)) hears.2 none_excepted (λ other not. refl)
              (having_missed whole x) y false e (heard_call v s call) o (kept_of_more g o s.kin.id values whole) (missed_config whole x)
              (λ p are. own_scopes p x.config.key.0 call message_names (message_entries (codes "new")) are) it
              (ap (λ (c : Config N). kept_more whole (λ kept. g.added c.fields kept values) (g.started c.fields c.settings)
              (kept_in v s.kin.id x.config.key.0)) agrees.0.config
              ∙ ap (kept_more whole (λ kept. g.added o.config.fields kept values) (g.started o.config.fields o.config.settings))
              (kept_before x.config.key.0 o.kept agrees.1))
              (missed_matches whole x o agrees.0) agrees.1);
        }
      where
        text_of_all : Bool → FirstText
        text_of_all true = first.Whole
        text_of_all false = first.Nothing

        whole_again : (b : Bool) → is_whole (text_of_all b) ≡ b
        whole_again true = refl
        whole_again false = refl

    step_follows : (local : RekeepingIsLocal) (x y : Layer N E W) (st : TimingStep) (asked : Config N → Bool) (message : List ℕ)
        (call : Call) →
        HearsStep g line_of writes st (asked x.config) message x v s.kin.id left y →
        (fate : Fate) × (y.output.starved ≡ missed_after fate.line (missed_after (is_whole fate.text) x.output.starved))
        × ((o : PlainOut N) → AgreesBut g line_of lines_in none_excepted v.registry v.mask x o →
        Agrees g line_of lines_in left v.mask y
        (event_if g (asked o.config) (keeping g o s.kin.id (kept_stepped st v.at (kept_found o.kept s.kin.id))) (heard_call v s call)
        (message_event g s.metadata s.kin.id message) fate.line))
    step_follows local x y st asked message call hears =
        let it = told_if (asked x.config) x y message_names (message_entries message) hears.1 in (
          record { text = first.Whole; line = it.whole },
          it.starved,
          λ o agrees. subst (λ (c : Config N). Agrees g line_of lines_in left v.mask y
              (event_if g (asked c) (keeping g o s.kin.id (kept_stepped st v.at (kept_found o.kept s.kin.id))) (heard_call v s call)
              (message_event g s.metadata s.kin.id message) it.whole))
              agrees.0.config
              (finished x local (kept_stepped st v.at (kept_in v s.kin.id x.config.key.0)) hears.0 none_excepted (λ other not. refl)
              x y (asked x.config) (message_event g s.metadata s.kin.id message) (heard_call v s call) o
              (kept_stepped st v.at (kept_found o.kept s.kin.id)) refl
              (λ p are. own_scopes p x.config.key.0 call message_names (message_entries message) are) it
              (ap (kept_stepped st v.at) (kept_before x.config.key.0 o.kept agrees.1)) agrees.0 agrees.1),
        )

    pub enter_follows : (local : RekeepingIsLocal) (x y : Layer N E W) (own : ℕ) (w : View) →
        HearsStep g line_of writes step.Enter x.config.span_events.enter (codes "enter") x v s.kin.id left y →
        FollowsBut g line_of lines_in none_excepted x v (heard_call v s (call_of (looks.Entered own w))) left y
    enter_follows local x y own w hears =
        let it = step_follows local x y step.Enter (λ c. c.span_events.enter) (codes "enter") (call_of (looks.Entered own w)) hears in
        record { fate = it.0; starved = it.1; agreed = it.2 }

    pub exit_follows : (local : RekeepingIsLocal) (x y : Layer N E W) (own : ℕ) (w : View) →
        HearsStep g line_of writes step.Exit x.config.span_events.exit (codes "exit") x v s.kin.id left y →
        FollowsBut g line_of lines_in none_excepted x v (heard_call v s (call_of (looks.Exited own w))) left y
    exit_follows local x y own w hears =
        let it = step_follows local x y step.Exit (λ c. c.span_events.exit) (codes "exit") (call_of (looks.Exited own w)) hears in
        record { fate = it.0; starved = it.1; agreed = it.2 }

    pub close_follows : (local : RekeepingIsLocal) (x y : Layer N E W) (own : ℕ) (w : View) →
        HearsClose g line_of writes x v s.kin.id left y →
        FollowsBut g line_of lines_in none_excepted x v (heard_call v s (call_of (looks.Closed own w))) left y
    close_follows local x y own w hears =
        let call = call_of (looks.Closed own w) in
        let kept = kept_stepped step.Close v.at (kept_in v s.kin.id x.config.key.0) in
        let it = close_told_if x.config.span_events.close kept.timings x y hears.1 in
        record {
          fate = record { text = first.Whole; line = it.whole };
          starved = it.starved;
          agreed = λ o agrees.
              let before : kept ≡ kept_stepped step.Close v.at (kept_found o.kept s.kin.id) =
              ap (kept_stepped step.Close v.at) (kept_before x.config.key.0 o.kept agrees.1) in
              subst (λ (k : PlainKept). Agrees g line_of lines_in left v.mask y
              (event_if g o.config.span_events.close (keeping g o s.kin.id k) (heard_call v s call)
              (close_event g s.metadata s.kin.id k.timings) it.whole)) before
              (subst (λ (b : Bool). Agrees g line_of lines_in left v.mask y
              (event_if g b (keeping g o s.kin.id kept) (heard_call v s call) (close_event g s.metadata s.kin.id kept.timings) it.whole))
              (ap (λ (c : Config N). c.span_events.close) agrees.0.config)
              (finished x local kept hears.0 none_excepted (λ other not. refl)
              x y x.config.span_events.close (close_event g s.metadata s.kin.id kept.timings) (heard_call v s call) o kept refl
              (λ p are. close_scopes p x.config.key.0 call kept.timings are) it refl agrees.0 agrees.1));
        }

  -- any call
  call_follows : (local : RekeepingIsLocal) (x : Layer N E W) (hook : Hook) (s : PlainSpan) (v : View) (left : RegistryValue)
      (y : Layer N E W) →
      seen v.registry v.mask s.kin.id ≡ Some s → HookTold g line_of writes x hook s.kin.id v left y →
      FollowsBut g line_of lines_in (is_new (call_of hook) s.kin.id) x v (heard_call v s (call_of hook)) left y
  call_follows local x (looks.SpanMade a own w) s v left y is told = new_follows v left s is told.2.1.0 local x y a own w told
  call_follows local x (looks.Recorded own values w) s v left y is told = record_follows v left s is told.2.1.0 local x y own values w told
  call_follows local x (looks.Entered own w) s v left y is told = enter_follows v left s is told.0.1.0 local x y own w told
  call_follows local x (looks.Exited own w) s v left y is told = exit_follows v left s is told.0.1.0 local x y own w told
  call_follows local x (looks.Closed own w) s v left y is told = close_follows v left s is told.0.1.0 local x y own w told

  pub follows : RekeepingIsLocal → LayerFollows g line_of lines_in writes
  follows local = record {
    events = event_follows;
    calls = λ x hook id s v left y is told.
        let own : id ≡ s.kin.id = sym (seen_id v.registry v.mask id s is) in
        subst (λ (n : ℕ). FollowsBut g line_of lines_in (is_new (call_of hook) n) x v (heard_call v s (call_of hook)) left y) (sym own)
        (call_follows local x hook s v left y (subst (λ (n : ℕ). seen v.registry v.mask n ≡ Some s) own is)
        (subst (λ (n : ℕ). HookTold g line_of writes x hook n v left y) own told));
  }
