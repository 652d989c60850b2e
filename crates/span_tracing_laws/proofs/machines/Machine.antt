-- Output machines: what is kept of spans and each line that is offered are such, over one notice and over notices in order.
use Rattle.std.proofs.Common.{ℕ, Bool, true, false, List, [], ◌∷◌, ◌++◌, codes, Option, Some, None, IfSome, if◌then◌else◌}
use Rattle.std.proofs.Common.{◌==◌, unwrap_or}
use Rattle.std.specs.List.{AllByRecursion}
use Rattle.tracing_core_fields.specs.PlainMetadata.{PlainMetadata}
use Rattle.tracing_core_fields.specs.requests.PlainRequests.{PlainEvent, PlainValues}
use Rattle.span_registry_layers_store.specs.declared.slot.Timings.{Timings}
use Rattle.event_formatter_text.specs.SpanFields.{PlainFields}
use Rattle.event_formatter_text.specs.declared.format_fields.FormatFields.{Ghosts}
use Rattle.event_formatter_text.specs.declared.settings.Settings.{Settings}
use Rattle.event_formatter_lines.specs.slots.FieldsAndTimings.{PlainKept, is_whole, kept_first, kept_more}
use Rattle.event_formatter_lines.specs.declared.slots.first_text.FirstText.{FirstText}
use Rattle.event_formatter_lines.specs.declared.slots.first_text.FirstText.TheVariants as first
use Rattle.event_formatter_lines.specs.slots.SteppedTimings.{kept_stepped}
use Rattle.event_formatter_lines.specs.declared.slots.timings.TimingStep.{TimingStep}
use Rattle.event_formatter_lines.specs.declared.slots.timings.TimingStep.TheVariants as step
use Rattle.event_formatter.specs.formats.Contexts.{PlainContext}
use Rattle.event_formatter.specs.fmt_layer.Threads.{PlainLane}
use Rattle.event_formatter.specs.declared.fmt_layer.layer.Config.{Config}
use Rattle.span_tracing_outputs.specs.OutputMachines.{Call, Closed, Entered, Fate, Fated, Happened, Heard, KeptSpan, Left, Made, OnSpan}
use Rattle.span_tracing_outputs.specs.OutputMachines.{PlainLine, PlainOut, Recorded, Said, call_after, close_event, event_after}
use Rattle.span_tracing_outputs.specs.OutputMachines.{event_if, having_met, kept_found, kept_of_more, kept_of_new, keeping, line_of_event}
use Rattle.span_tracing_outputs.specs.OutputMachines.{message_event, more_lines, out_after, out_run, said_after, stepped, timings_at_first}
use Rattle.span_tracing_laws.specs.machines.Lines.{AreLines}
use Rattle.span_tracing_laws.specs.machines.Said.{CallIs, SaidIs}

-- what is kept with spans
module _ (K : PlainFields → Type 0) where
  abbrev pub IsKept : PlainKept → Type 0
  IsKept kept = IfSome kept.fields K

  abbrev pub AreKept : List KeptSpan → Type 0
  AreKept ks = AllByRecursion (λ (k : KeptSpan). IfSome k.kept.fields K) ks

  either_is : (same : Bool) (a b : PlainKept) → IsKept a → IsKept b → IsKept (if same then a else b)
  either_is true a b a_is b_is = a_is
  either_is false a b a_is b_is = b_is

  pub found_is : (ks : List KeptSpan) (id : ℕ) → AreKept ks → IsKept (kept_found ks id)
  found_is [] id all = tt
  found_is (k ∷ ks) id all = either_is (k.id == id) k.kept (kept_found ks id) all.0 (found_is ks id all.1)

  after_is : (o : Option PlainFields) (fields : PlainFields) → IfSome o K → K fields → K (unwrap_or o fields)
  after_is None fields more is = is
  after_is (Some added) fields more is = more

  first_is : (text : FirstText) (added : PlainFields → Option PlainFields) (started : PlainFields) (timings : Option Timings) →
      IfSome (added started) K → K started → IsKept (kept_first text added started timings)
  first_is first.Whole added started timings more is = after_is (added started) started more is
  first_is first.Started added started timings more is = is
  first_is first.Nothing added started timings more is = tt

  more_is : (whole : Bool) (added : PlainFields → Option PlainFields) (started : PlainFields) (kept : PlainKept) →
      ((fields : PlainFields) → K fields → IfSome (added fields) K) → K started → IsKept kept →
      IsKept (kept_more whole added started kept)
  more_is true added started kept more is all =
      let before = after_is kept.fields started all is in
      after_is (added (unwrap_or kept.fields started)) (unwrap_or kept.fields started) (more (unwrap_or kept.fields started) before) before
  more_is false added started kept more is all = all

-- lines that are offered
module _ (P : List ℕ → Type 0) where
  one_behind : (lines : List PlainLine) (level : ℕ) (bytes : List ℕ) → AreLines P lines → P bytes →
      AreLines P (lines ++ (record { level = level; bytes = bytes }) ∷ [])
  one_behind [] level bytes all is = (is, tt)
  one_behind (line ∷ lines) level bytes all is = (all.0, one_behind lines level bytes all.1 is)

  more_offered : (whole : Bool) (level : ℕ) (line : Option (List ℕ)) (lines : List PlainLine) → AreLines P lines → IfSome line P →
      AreLines P (more_lines whole level line lines)
  more_offered whole level None lines all is = all
  more_offered true level (Some bytes) lines all is = one_behind lines level bytes all is
  more_offered false level (Some bytes) lines all is = all

-- How an output was made (its parts that stay), what it keeps of spans, what comes with a notice, where that is heard, which events may
-- happen, and what each line is.
module _ {N : Type 0} (n : Ghosts N)
    (J : Config N → (Settings → PlainContext → PlainEvent → Option (List ℕ)) → List PlainLane → Type 0) (K : PlainFields → Type 0)
    (M : PlainMetadata → Type 0) (V : PlainValues → Type 0) (H : Heard → Type 0) (Q : PlainEvent → Type 0) (P : List ℕ → Type 0) where
  abbrev pub IsMade : PlainOut N → Type 0
  IsMade o = J o.config o.line_of o.lanes

  pub record Goes (o : PlainOut N) : Type 0 where
    pub made : IsMade o
    pub kept : AreKept K o.kept
    pub lines : AreLines P o.lines

  keeping_goes : (o : PlainOut N) (id : ℕ) (kept : PlainKept) → Goes o → IsKept K kept → Goes (keeping n o id kept)
  keeping_goes o id kept goes is = record { made = goes.made; kept = (is, goes.kept); lines = goes.lines }

  -- the lines of events, what fields start with and what more values make of them are such, and the output's own events may happen
  module _ (offers : (o : PlainOut N) → IsMade o → AreKept K o.kept → (h : Heard) → H h → (e : PlainEvent) → Q e →
      IfSome (line_of_event n o h e) P)
      (starts : (o : PlainOut N) → IsMade o → K (n.started o.config.fields o.config.settings))
      (adds : (o : PlainOut N) → IsMade o → (fields : PlainFields) (values : PlainValues) → V values → K fields →
      IfSome (n.added o.config.fields fields values) K)
      (messages : (m : PlainMetadata) (id : ℕ) (message : List ℕ) → M m → Q (message_event n m id message))
      (closes : (m : PlainMetadata) (id : ℕ) (timings : Option Timings) → M m → Q (close_event n m id timings)) where
    event_goes : (o : PlainOut N) (h : Heard) (e : PlainEvent) (whole : Bool) → H h → Goes o → Q e → Goes (event_after n o h e whole)
    event_goes o h e whole where_is goes is = record {
      made = goes.made;
      kept = goes.kept;
      lines = more_offered P whole e.metadata.level (line_of_event n (having_met n o h.at.lane) h e) o.lines goes.lines
          (offers (having_met n o h.at.lane) goes.made goes.kept h where_is e is);
    }

    event_if_goes : (asked : Bool) (o : PlainOut N) (h : Heard) (e : PlainEvent) (whole : Bool) → H h → Goes o → Q e →
        Goes (event_if n asked o h e whole)
    event_if_goes true o h e whole where_is goes is = event_goes o h e whole where_is goes is
    event_if_goes false o h e whole where_is goes is = goes

    stepped_goes : (s : TimingStep) (asked : Bool) (message : List ℕ) (o : PlainOut N) (h : Heard) (id : ℕ) (m : PlainMetadata) (f : Fate) →
        H h → M m → Goes o → Goes (stepped n s asked message o h id m f)
    stepped_goes s asked message o h id m f where_is metadata goes =
        let kept = kept_stepped s h.at (kept_found o.kept id) in
        event_if_goes asked (keeping n o id kept) h (message_event n m id message) f.line where_is
        (keeping_goes o id kept goes (found_is K o.kept id goes.kept)) (messages m id message metadata)

    call_goes : (call : Call) (o : PlainOut N) (h : Heard) (id : ℕ) (m : PlainMetadata) (f : Fate) → H h → M m → CallIs V call →
        Goes o → Goes (call_after n call o h id m f)
    call_goes (Made a) o h id m f where_is metadata values goes =
        let kept = kept_of_new n o h.at a.values f.text in
        let started = n.started o.config.fields o.config.settings in
        let is = starts o goes.made in
        event_if_goes o.config.span_events.new (keeping n o id kept) h (message_event n m id (codes "new")) f.line where_is
        (keeping_goes o id kept goes (first_is K f.text (λ fields. n.added o.config.fields fields a.values) started
        (timings_at_first n o h.at) (adds o goes.made started a.values values is) is)) (messages m id (codes "new") metadata)
    call_goes (Recorded values) o h id m f where_is metadata are goes =
        keeping_goes o id (kept_of_more n o id values (is_whole f.text)) goes
        (more_is K (is_whole f.text) (λ fields. n.added o.config.fields fields values) (n.started o.config.fields o.config.settings)
        (kept_found o.kept id) (λ fields is. adds o goes.made fields values are is) (starts o goes.made)
        (found_is K o.kept id goes.kept))
    call_goes Entered o h id m f where_is metadata values goes =
        stepped_goes step.Enter o.config.span_events.enter (codes "enter") o h id m f where_is metadata goes
    call_goes Left o h id m f where_is metadata values goes =
        stepped_goes step.Exit o.config.span_events.exit (codes "exit") o h id m f where_is metadata goes
    call_goes Closed o h id m f where_is metadata values goes =
        let kept = kept_stepped step.Close h.at (kept_found o.kept id) in
        event_if_goes o.config.span_events.close (keeping n o id kept) h (close_event n m id kept.timings) f.line where_is
        (keeping_goes o id kept goes (found_is K o.kept id goes.kept)) (closes m id kept.timings metadata)

    said_goes : (said : Said) (o : PlainOut N) (h : Heard) (f : Fate) → H h → SaidIs M V Q said → Goes o → Goes (said_after n said o h f)
    said_goes (OnSpan id m call) o h f where_is told goes = call_goes call o h id m f where_is told.0 told.1 goes
    said_goes (Happened e) o h f where_is told goes = event_goes o h e f.line where_is goes told

    pub run_goes : (o : PlainOut N) (ts : List Fated) → AllByRecursion (λ (t : Fated). H t.heard × SaidIs M V Q t.heard.said) ts → Goes o →
        Goes (out_run n o ts)
    run_goes o [] told goes = goes
    run_goes o (t ∷ ts) told goes =
        run_goes (out_after n o t.heard t.fate) ts told.1 (said_goes t.heard.said o t.heard t.fate told.0.0 told.0.1 goes)
