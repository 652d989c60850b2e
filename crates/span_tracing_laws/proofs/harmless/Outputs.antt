-- Output machines whose lines don't steer a terminal, over notices in order.
use Rattle.std.proofs.Common.{ℕ, zero, suc, List, [], ◌∷◌, map, Option, Some, None, IfSome, slice_get, unwrap_or}
use Rattle.std.specs.List.{AllByRecursion}
use Rattle.std.specs.Option.{option_map}
use Rattle.tracing_core_fields.specs.requests.PlainRequests.{PlainEvent}
use Rattle.event_formatter_text.specs.HarmlessTexts.{AreTame, LetsPass}
use Rattle.event_formatter_text.specs.SpanFields.{PlainFields}
use Rattle.event_formatter_text.specs.TerminalControls.{AreHarmless}
use Rattle.event_formatter_text.specs.declared.format_fields.FormatFields.{Ghosts}
use Rattle.event_formatter_text.specs.declared.settings.Settings.{Settings}
use Rattle.event_formatter_lines.specs.HarmlessLines.{IsTameSpan}
use Rattle.event_formatter.specs.formats.Contexts.{PlainContext}
use Rattle.event_formatter.specs.fmt_layer.Threads.{PlainLane, lane_or_none}
use Rattle.event_formatter.specs.declared.fmt_layer.layer.Config.{Config}
use Rattle.span_tracing_outputs.specs.OutputMachines.{Heard, KeptSpan, PlainOut, Seen, context_of, kept_found, line_of_event, shown_with}
use Rattle.span_tracing_laws.specs.harmless.Kept.{IsHarmlessKept, KeepsHarmlessTexts, WritesHarmlessTexts}
use Rattle.span_tracing_laws.specs.harmless.Lines.{IsTameContext, IsTameEvent, IsTameMetadata, WritesHarmlessLines}
use Rattle.span_tracing_laws.specs.harmless.Outputs.{AreTameLanes, IsTameSeen, KeepsHarmless, OutputsStayHarmless}
use Rattle.span_tracing_laws.specs.machines.Said.{AreSeen}
use Rattle.span_tracing_laws.proofs.machines.Machine.{found_is, run_goes}
use Rattle.span_tracing_laws.proofs.harmless.Faults.{line_or_fault_passes}
use Rattle.span_tracing_laws.proofs.harmless.SpanEvents.{close_is_tame, message_is_tame}
use Rattle.span_tracing_laws.proofs.harmless.Texts.{nothing}

-- spans as lines show them
kept_passes : (fields : Option PlainFields) → IfSome fields IsHarmlessKept →
    LetsPass (unwrap_or (option_map (λ (kept : PlainFields). kept.text) fields) [])
kept_passes None is = nothing
kept_passes (Some fields) is = is.text

spans_are : (ks : List KeptSpan) (spans : List Seen) → AllByRecursion (λ (k : KeptSpan). IfSome k.kept.fields IsHarmlessKept) ks →
    AllByRecursion IsTameSeen spans → AllByRecursion IsTameSpan (map (shown_with ks) spans)
spans_are ks [] kept tame = tt
spans_are ks (s ∷ spans) kept tame = (
  record {
    name = tame.0.0;
    target = tame.0.1;
    text = kept_passes (kept_found ks s.id).fields (found_is IsHarmlessKept ks s.id kept);
  },
  spans_are ks spans kept tame.1,
)

-- the thread of a lane
lane_is : (lanes : List PlainLane) (place lane : ℕ) → AreTameLanes lanes →
    IfSome (lane_or_none lane (slice_get lanes place)).name LetsPass
lane_is [] place lane tame = tt
lane_is (l ∷ lanes) zero lane tame = tame.0
lane_is (l ∷ lanes) (suc place) lane tame = lane_is lanes place lane tame.1

module _ {N : Type 0} (n : Ghosts N) where
  -- how such an output is made
  record IsMade (config : Config N) (line_of : Settings → PlainContext → PlainEvent → Option (List ℕ)) (lanes : List PlainLane) :
      Type 0 where
    pub format : WritesHarmlessLines line_of
    pub texts : WritesHarmlessTexts n config.fields
    pub keeps : KeepsHarmlessTexts n config.fields
    pub settings : AreHarmless config.settings
    pub lanes_are : AreTameLanes lanes

  context_is : (o : PlainOut N) → IsMade o.config o.line_of o.lanes → KeepsHarmless o → (h : Heard) → AreSeen IsTameSeen h →
      IsTameContext (context_of n o h)
  context_is o made kept h seen = record {
    thread = lane_is o.lanes h.at.lane h.at.lane made.lanes_are;
    loose = spans_are o.kept h.loose kept seen.0;
    strict = spans_are o.kept h.strict kept seen.1;
    fields = made.texts;
  }

  line_is : (o : PlainOut N) → IsMade o.config o.line_of o.lanes → KeepsHarmless o → (h : Heard) → AreSeen IsTameSeen h →
      (e : PlainEvent) → IsTameEvent e → IfSome (line_of_event n o h e) LetsPass
  line_is o made kept h seen e tame =
      line_or_fault_passes o.config.log_internal_errors e.metadata (o.line_of o.config.settings (context_of n o h) e) tame.0
      (made.format o.config.settings made.settings (context_of n o h) (context_is o made kept h seen) e tame)

  pub outputs_stay : OutputsStayHarmless n
  outputs_stay o ts tame is lines =
      let went = run_goes n IsMade IsHarmlessKept IsTameMetadata AreTame (AreSeen IsTameSeen) IsTameEvent LetsPass line_is
      (λ p made. made.keeps.0 p.config.settings made.settings)
      (λ p made fields values tame_values kept. made.keeps.1 fields values tame_values kept) (message_is_tame n) (close_is_tame n) o ts tame
      (record {
        made = record {
          format = is.format;
          texts = is.texts;
          keeps = is.keeps;
          settings = is.settings;
          lanes_are = is.lanes;
        };
        kept = is.kept;
        lines = lines;
      }) in (
        record {
          format = went.made.format;
          texts = went.made.texts;
          keeps = went.made.keeps;
          settings = went.made.settings;
          lanes = went.made.lanes_are;
          kept = went.kept;
        },
        went.lines,
      )
