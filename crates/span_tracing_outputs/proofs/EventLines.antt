-- The line of an event is that of an output machine.
use Rattle.std.proofs.Common.{◌≡◌, ℕ, Bool, true, false, List, map, Option, Some, None, Result, Ok, Err, ap, ◌∙◌}
use Rattle.std.specs.declared.io.Error.{Error}
use Rattle.tracing_core_fields.specs.PlainMetadata.{PlainMetadata}
use Rattle.tracing_core_fields.specs.requests.PlainRequests.{PlainEvent}
use Rattle.span_registry_layers_layers.specs.FilterViews.{View}
use Rattle.event_formatter_text.specs.declared.format_fields.FormatFields.{Ghosts}
use Rattle.event_formatter_text.specs.declared.settings.Settings.{Settings}
use Rattle.event_formatter.specs.formats.Contexts.{PlainContext}
use Rattle.event_formatter.specs.formats.Scopes.{loose_scope, strict_scope}
use Rattle.event_formatter.specs.fmt_layer.Layers as layers
use Rattle.event_formatter.specs.fmt_layer.Layers.{TellsEvent, line_in_view}
use Rattle.event_formatter.specs.fmt_layer.Lines.{Counts, Offers, OffersBy, line_or_fault}
use Rattle.event_formatter.specs.declared.fmt_layer.layer.Layer.{Layer}
use Rattle.event_formatter.specs.declared.fmt_layer.output.Output.{Output}
use Rattle.span_tracing_outputs.specs.LayerAgreement.{Keeps, Matches}
use Rattle.span_tracing_outputs.specs.OutputMachines.{Heard, PlainLine, PlainOut, event_after, having_met, line_of_event, missed_after}
use Rattle.span_tracing_outputs.specs.OutputMachines.{more_lines, shown_with}

module _ {W : Type 0} (lines_in : W → List PlainLine) (writes : W → PlainMetadata → List ℕ → Result (Unit {0}) Error → W → Type 0)
    (keeps : (x : W) (m : PlainMetadata) (line : List ℕ) (answer : Result (Unit {0}) Error) (y : W) → writes x m line answer y →
    Keeps lines_in x m line answer y) where
  -- whether the line of an event found memory
  abbrev pub OffersWhole : Output W → PlainMetadata → Option (List ℕ) → Output W → Type 0
  OffersWhole x m line y =
      (whole : Bool) × (y.starved ≡ missed_after whole x.starved) × (lines_in y.maker ≡ more_lines whole m.level line (lines_in x.maker))

  handed : (x y : Output W) (m : PlainMetadata) (line : List ℕ) (answer : Result (Unit {0}) Error) →
      Keeps lines_in x.maker m line answer y.maker →
      Counts answer x.starved y.starved → OffersWhole x m (Some line) y
  handed x y m line (Ok done) kept counts = (true, counts, kept)
  handed x y m line (Err error) kept counts = (false, counts.0 kept.0, kept.1)

  offered_by : (b : Bool) (x y : Output W) (m : PlainMetadata) (line : Option (List ℕ)) → OffersBy writes b x m line y →
      OffersWhole x m line y
  offered_by true x y m None offers = (true, offers.1, ap lines_in offers.0)
  offered_by true x y m (Some line) offers = handed x y m line offers.0 (keeps x.maker m line offers.0 y.maker offers.1) offers.2
  offered_by false x y m None offers = (false, offers.1, ap lines_in offers.0)
  offered_by false x y m (Some line) offers = (false, offers.1, ap lines_in offers.0)

  pub offered_whole : (x y : Output W) (m : PlainMetadata) (line : Option (List ℕ)) → Offers writes x m line y → OffersWhole x m line y
  offered_whole x y m line offers = offered_by offers.0 x y m line offers.1

  module _ {N E : Type 0} (g : Ghosts N) (line_of : E → Settings → PlainContext → PlainEvent → Option (List ℕ)) where
    -- the scopes of the view are those of the notice, with the texts that the output keeps
    pub record ShowsScopes (w : View) (key : ℕ) (e : PlainEvent) (h : Heard) (o : PlainOut N) : Type 0 where
      pub at : w.at ≡ h.at
      pub loose : loose_scope w key e.parent ≡ map (shown_with o.kept) h.loose
      pub strict : strict_scope w key e.parent ≡ map (shown_with o.kept) h.strict

    -- the layer's line is the output's
    same_line : (x : Layer N E W) (w : View) (e : PlainEvent) (h : Heard) (o : PlainOut N) → Matches g line_of lines_in x o →
        ShowsScopes w x.config.key.0 e h o →
        line_or_fault x.config.log_internal_errors e.metadata (line_in_view g.text_of line_of (layers.having_met x w.at.lane) w e)
        ≡ line_of_event g (having_met g o h.at.lane) h e
    same_line x w e h o same shows =
        let c = layers.context_in g.text_of line_of (layers.having_met x w.at.lane) w e in
        let here : line_of x.format x.config.settings c e ≡ o.line_of x.config.settings c e = same.format x.config.settings c e in
        let at = shows.at in
        let loose = shows.loose in
        let strict = shows.strict in
        let config = same.config in
        let lanes = same.lanes in
        let longest = same.longest in
        cc

    -- an event's line was offered, or found no memory
    pub record EventTold (x : Layer N E W) (y : Layer N E W) (w : View) (e : PlainEvent) : Type 0 where
      pub whole : Bool
      pub starved : y.output.starved ≡ missed_after whole x.output.starved
      pub config : y.config ≡ x.config
      pub matches : (o : PlainOut N) (h : Heard) → Matches g line_of lines_in x o → ShowsScopes w x.config.key.0 e h o →
          Matches g line_of lines_in y (event_after g o h e whole)

    pub event_told : (x y : Layer N E W) (w : View) (e : PlainEvent) → TellsEvent g.text_of line_of writes x w e y → EventTold x y w e
    event_told x y w e told =
        let making = told.0 in
        let offer = offered_whole x.output y.output e.metadata
        (line_or_fault x.config.log_internal_errors e.metadata (line_in_view g.text_of line_of (layers.having_met x w.at.lane) w e))
        told.2 in
        record {
          whole = offer.0;
          starved = offer.1;
          config = making.0;
          matches = λ o h same shows. record {
            config = making.0 ∙ same.config;
            format = λ s c p. making.2 s c p ∙ same.format s c p;
            lanes = making.1 ∙ same.lanes;
            longest = longest_told o h same shows told.1;
            lines = offer.2 ∙ ap (λ (line : Option (List ℕ)). more_lines offer.0 e.metadata.level line (lines_in x.output.maker))
                (same_line x w e h o same shows)
                ∙ ap (λ (lines : List PlainLine). more_lines offer.0 e.metadata.level (line_of_event g (having_met g o h.at.lane) h e)
                lines) same.lines;
          };
        }
      where
        longest_told : (o : PlainOut N) (h : Heard) → Matches g line_of lines_in x o → ShowsScopes w x.config.key.0 e h o →
            y.threads.longest ≡ (layers.having_met x w.at.lane).threads.longest → y.threads.longest ≡ (having_met g o h.at.lane).longest
        longest_told o h same shows is =
            let at = shows.at in
            let lanes = same.lanes in
            let longest = same.longest in
            cc
