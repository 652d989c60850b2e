-- The lines of a JSON output over a run.
use Rattle.std.proofs.Common.{◌≡◌, inl, inr, ℕ, Bool, true, false, ◌||◌, if◌then◌else◌, List, [], ◌∷◌, Option, Some, None}
use Rattle.std.proofs.Common.{IfSome, IsSome, is_none, refl, sym, ap, subst, ◌∙◌}
use Rattle.std.proofs.ByRecursion.{all_kept_by}
use Rattle.std.specs.List.{AllByRecursion, list_any}
use Rattle.std.specs.Option.{option_map}
use Rattle.std.specs.Prelude.{length, nat_lt, slice_get}
use Rattle.tracing_core_fields.specs.PlainMetadata.{PlainMetadata}
use Rattle.tracing_core_fields.specs.PlainValue.{PlainValue, debug_of}
use Rattle.tracing_core_fields.specs.requests.PlainRequests.{PlainEvent}
use Rattle.event_formatter_text.specs.JsonLaws.{IsInRange}
use Rattle.event_formatter_text.specs.JsonTexts.{json_value}
use Rattle.event_formatter_text.specs.Lists.{entry_piece}
use Rattle.event_formatter_text.specs.Visitors.{member_piece}
use Rattle.event_formatter_text.specs.declared.format_fields.FormatFields.{Ghosts}
use Rattle.event_formatter_lines.specs.JsonLaws.{IsObjectLine}
use Rattle.span_tracing_outputs.specs.OutputMachines.{Fated, Happened, OnSpan, PlainOut, Said, Seen, out_run, rested}
use Rattle.span_tracing_outputs.specs.OutputFolds.{Numbered}
use Rattle.span_tracing_outputs.specs.OutputSettings.{out_set}
use Rattle.span_tracing_skeleton.specs.Looking.{known, named}
use Rattle.span_tracing_skeleton.specs.PlainData.{AnyStep, OfQueue, OfTrace, PlainStep, Request, GlobalStep, EventStep, EnabledStep}
use Rattle.span_tracing_skeleton.specs.PlainData.{SpanStep, RecordStep}
use Rattle.span_tracing_skeleton.specs.PlainData.{FollowsFromStep, EnterStep, ExitStep, CloneStep, CloseStep, DefaultStep, ResetStep}
use Rattle.span_tracing_skeleton.specs.PlainData.{CloneHandleStep, ReleaseStep, SetStep}
use Rattle.span_tracing_skeleton.specs.Skeleton.{Skeleton}
use Rattle.span_tracing_skeleton.specs.declared.setting.Setting.{Setting}
use Rattle.span_tracing_skeleton.specs.declared.setting.Setting.TheVariants.{Ansi, SpanEvents}
use Rattle.span_tracing_steps.specs.StackRequests.{own_values, request_of}
use Rattle.span_tracing_laws.specs.machines.Said.{HeardIs, SaidIs}
use Rattle.span_tracing_laws.specs.json.Objects.{AreFormattedSaid, AreInRange, AreInRangeSaid, AreObjectLines, CanBeFormatted}
use Rattle.span_tracing_laws.specs.json.Objects.{IsEventInRange, IsFormattedSaid, IsInRangeSaid, IsJsonOut, IsPlaceInRange}
use Rattle.span_tracing_laws.specs.json.Objects.{JsonRuns, WritesEach}
use Rattle.span_tracing_laws.specs.runs.Runs.{Plain, StepWithMask, lines_of, steps_of}
use Rattle.span_tracing_laws.specs.json_runs.JsonRuns.{AreObjectsRun, JsonOutputsRun}
use Rattle.span_tracing_laws.specs.json_runs.Steps.{AnySetting, AnyValues, Brings, BringsAny, EventsAreFormatted, IsSkeletonInRange}
use Rattle.span_tracing_laws.specs.json_runs.Steps.{StepsInRange, ValuesAreFormatted, ValuesInRange}
use Rattle.span_tracing_laws.proofs.machines.Skeletons.{kind_is, named_is}
use Rattle.span_tracing_laws.proofs.machines.Outputs.{run_is}

-- values that can be formatted
piece_is_there : (f : List ℕ → List ℕ) (o : Option (List ℕ)) → IsSome o → is_none (option_map f o) ≡ false
piece_is_there f None there = absurd (cc)
piece_is_there f (Some text) there = refl

both_false : (a b : Bool) → a ≡ false → b ≡ false → (a || b) ≡ false
both_false true b e f = absurd (cc)
both_false false b e f = f

none_fails : (names : List (List ℕ)) (entries : List (ℕ × PlainValue)) → ValuesAreFormatted entries →
    list_any (λ e. is_none (entry_piece member_piece names e)) entries ≡ false
none_fails names [] all = refl
none_fails names (e ∷ es) all = both_false (is_none (entry_piece member_piece names e))
    (list_any (λ v. is_none (entry_piece member_piece names v)) es) (piece_is_there _ (json_value (debug_of e.1)) all.0)
    (none_fails names es all.1)

some_unless : {A : Type 0} (fails : Bool) (x : A) → fails ≡ false → IsSome (if fails then None else Some x)
some_unless true x none = absurd (cc)
some_unless false x none = refl

event_formatted : (m : PlainMetadata) (r : Request) → ValuesAreFormatted r.values → CanBeFormatted (request_of m r)
event_formatted m r all =
    some_unless _ _ (none_fails m.field_names (own_values m r.values).entries
    (all_kept_by (λ (v : ℕ × PlainValue). nat_lt v.0 (length m.field_names)) (λ v. IsSome (json_value (debug_of v.1))) r.values all))

-- values that are in range and can be formatted
abbrev AreBoth : List (ℕ × PlainValue) → Type 0
AreBoth values = ValuesInRange values × ValuesAreFormatted values

both_brought : (step : PlainStep) → Brings ValuesInRange ValuesInRange step → Brings ValuesAreFormatted AnyValues step →
    Brings AreBoth ValuesInRange step
both_brought (GlobalStep handle) range formatted = tt
both_brought (EventStep e) range formatted = (range, formatted)
both_brought (EnabledStep call) range formatted = tt
both_brought (SpanStep n) range formatted = range
both_brought (RecordStep r) range formatted = range
both_brought (FollowsFromStep call) range formatted = tt
both_brought (EnterStep call) range formatted = tt
both_brought (ExitStep call) range formatted = tt
both_brought (CloneStep call) range formatted = tt
both_brought (CloseStep call) range formatted = tt
both_brought (DefaultStep call) range formatted = tt
both_brought (ResetStep call) range formatted = tt
both_brought (CloneHandleStep handle) range formatted = tt
both_brought (ReleaseStep handle) range formatted = tt
both_brought (SetStep call) range formatted = tt

any_brought : (step : AnyStep) → BringsAny ValuesInRange ValuesInRange step → BringsAny ValuesAreFormatted AnyValues step →
    BringsAny AreBoth ValuesInRange step
any_brought (OfTrace step) range formatted = both_brought step range formatted
any_brought (OfQueue ask) range formatted = tt

all_brought : (steps : List AnyStep) → StepsInRange steps → EventsAreFormatted steps →
    AllByRecursion (BringsAny AreBoth ValuesInRange) steps
all_brought [] range formatted = tt
all_brought (step ∷ steps) range formatted = (any_brought step range.0 formatted.0, all_brought steps range.1 formatted.1)

-- any span in a scope
abbrev AnySeen : Seen → Type 0
AnySeen span = Unit {0}

-- events in range, and those that can be formatted too
abbrev IsBoth : PlainEvent → Type 0
IsBoth e = IsEventInRange e × CanBeFormatted e

abbrev AreFatedSaid : (PlainEvent → Type 0) → List Fated → Type 0
AreFatedSaid Q ts = AllByRecursion (λ (t : Fated). HeardIs AnySeen IsPlaceInRange AreInRange Q t.heard) ts

all_in_range : (ts : List Fated) → AreFatedSaid IsEventInRange ts → AreInRangeSaid ts
all_in_range [] all = tt
all_in_range (t ∷ ts) all = (all.0.1, all_in_range ts all.1)

both_said : (said : Said) → SaidIs IsPlaceInRange AreInRange IsBoth said → IsInRangeSaid said × IsFormattedSaid said
both_said (OnSpan id m call) is = (is, tt)
both_said (Happened e) is = is

all_both : (ts : List Fated) → AreFatedSaid IsBoth ts → AreInRangeSaid ts × AreFormattedSaid ts
all_both [] all = (tt, tt)
all_both (t ∷ ts) all =
    let one = both_said t.heard.said all.0.1 in
    let others = all_both ts all.1 in
    ((one.0, others.0), (one.1, others.1))

-- what a step brings to a callsite in range
own_in_range : (m : PlainMetadata) (values : List (ℕ × PlainValue)) → ValuesInRange values → AreInRange (own_values m values)
own_in_range m values all = all_kept_by (λ (v : ℕ × PlainValue). nat_lt v.0 (length m.field_names)) (λ v. IsInRange (debug_of v.1)) values
    all

event_in_range : (m : PlainMetadata) (r : Request) → IsPlaceInRange m → ValuesInRange r.values → IsEventInRange (request_of m r)
event_in_range m r place range = (place, own_in_range m r.values range)

event_is_both : (m : PlainMetadata) (r : Request) → IsPlaceInRange m → AreBoth r.values → IsBoth (request_of m r)
event_is_both m r place both = (event_in_range m r place both.0, event_formatted m r both.1)

weaker : {A : Type 0} (P Q : A → Type 0) (o : Option A) → IfSome o P → ((x : A) → P x → Q x) → IfSome o Q
weaker P Q None is gives = tt
weaker P Q (Some x) is gives = gives x is

abbrev AreInRangeAll : List PlainMetadata → Type 0
AreInRangeAll ms = AllByRecursion IsPlaceInRange ms

module _ (Q : PlainEvent → Type 0) (R : List (ℕ × PlainValue) → Type 0)
    (is : (m : PlainMetadata) (r : Request) → IsPlaceInRange m → R r.values → Q (request_of m r)) where
  event_is : (s : Skeleton) (e : Request) → AreInRangeAll s.callsites → R e.values →
      IfSome (known s e.callsite false) (λ m. Q (request_of m e))
  event_is s e callsites brings =
      weaker IsPlaceInRange (λ m. Q (request_of m e)) (known s e.callsite false)
      (kind_is IsPlaceInRange (named s.callsites e.callsite) false (named_is IsPlaceInRange s.callsites e.callsite callsites))
      (λ m place. is m e place brings)

span_is : (s : Skeleton) (r : Request) → AreInRangeAll s.callsites → ValuesInRange r.values →
    IfSome (known s r.callsite true) (λ m. AreInRange (own_values m r.values))
span_is s r callsites range =
    weaker IsPlaceInRange (λ m. AreInRange (own_values m r.values)) (known s r.callsite true)
    (kind_is IsPlaceInRange (named s.callsites r.callsite) true (named_is IsPlaceInRange s.callsites r.callsite callsites))
    (λ m place. own_in_range m r.values range)

record_is : (ms : List PlainMetadata) (number : ℕ) (values : List (ℕ × PlainValue)) → AreInRangeAll ms → ValuesInRange values →
    IfSome (named ms number) (λ m. AreInRange (own_values m values))
record_is ms number values callsites range =
    weaker IsPlaceInRange (λ m. AreInRange (own_values m values)) (named ms number) (named_is IsPlaceInRange ms number callsites)
    (λ m place. own_in_range m values range)

module _ {N : Type 0} (n : Ghosts N) (laws : JsonRuns n) where
  rested_json : (o : PlainOut N) → IsJsonOut n o → IsJsonOut n (rested o)
  rested_json o json = record { format = json.format; fields = json.fields; kept = json.kept }

  set_json : (o : Numbered N) (setting : Setting) → IsJsonOut n o.out → IsJsonOut n (out_set setting o).out
  set_json o (Ansi on) json = record { format = json.format; fields = json.fields; kept = json.kept }
  set_json o (SpanEvents moments) json = record { format = json.format; fields = json.fields; kept = json.kept }

  -- an output of JSON that tells no faults
  abbrev Quiet : PlainOut N → Type 0
  Quiet o = IsJsonOut n o × (o.config.log_internal_errors ≡ false) × AreObjectLines o.lines

  quiet_goes : (o : PlainOut N) (ts : List Fated) → AreFatedSaid IsEventInRange ts → Quiet o → Quiet (out_run n o ts)
  quiet_goes o ts said (json, off, lines) =
      let range = all_in_range ts said in
      let kept = laws.stays o ts range json in
      (kept.0, ap (λ c. c.log_internal_errors) kept.1.config ∙ off, laws.untold o ts range json off lines)

  quiet_set : (o : Numbered N) (setting : Setting) → AnySetting setting → Quiet o.out → Quiet (out_set setting o).out
  quiet_set o (Ansi on) any quiet = (set_json o (Ansi on) quiet.0, quiet.1, quiet.2)
  quiet_set o (SpanEvents moments) any quiet = (set_json o (SpanEvents moments) quiet.0, quiet.1, quiet.2)

  -- an output of JSON that has a line of each event that can be formatted
  abbrev Whole : PlainOut N → Type 0
  Whole o = IsJsonOut n o × WritesEach o.line_of × AreObjectLines o.lines

  whole_goes : (o : PlainOut N) (ts : List Fated) → AreFatedSaid IsBoth ts → Whole o → Whole (out_run n o ts)
  whole_goes o ts said (json, each, lines) =
      let both = all_both ts said in
      let kept = laws.stays o ts both.0 json in
      (kept.0, subst WritesEach (sym kept.1.format) each, laws.formatted o ts both.0 both.1 json each lines)

  whole_set : (o : Numbered N) (setting : Setting) → AnySetting setting → Whole o.out → Whole (out_set setting o).out
  whole_set o setting any whole = (set_json o setting whole.0, whole.1, whole.2)

  -- any output that stays one of JSON has a run of objects, where it is asked for no more of steps than that their numbers are in range
  module _ (Q : PlainEvent → Type 0) (R : List (ℕ × PlainValue) → Type 0)
      (is : (m : PlainMetadata) (r : Request) → IsPlaceInRange m → R r.values → Q (request_of m r)) (J : PlainOut N → Type 0)
      (lines_are : (o : PlainOut N) → J o → AreObjectLines o.lines) (rests : (o : PlainOut N) → J o → J (rested o))
      (goes : (o : PlainOut N) (ts : List Fated) → AreFatedSaid Q ts → J o → J (out_run n o ts))
      (sets : (o : Numbered N) (setting : Setting) → AnySetting setting → J o.out → J (out_set setting o).out) where
    objects_run : (stack : ℕ) (p : Plain N) (turns : List StepWithMask) (place : ℕ) → IsSkeletonInRange p.skeleton →
        IfSome (slice_get (p.outs stack) place) (λ (o : Numbered N). J o.out) →
        AllByRecursion (BringsAny R ValuesInRange) (steps_of turns) → IfSome (slice_get (lines_of n p turns stack) place) AreObjectsRun
    objects_run stack p turns place skeleton at brings =
        run_is AnySeen IsPlaceInRange AreInRange Q (λ x place. tt) n IsObjectLine AnySetting J lines_are rests goes sets AreInRangeAll
        (λ e. R e.values) (λ r. ValuesInRange r.values) ValuesInRange (named_is IsPlaceInRange) (event_is Q R is) span_is record_is stack
        p turns place (skeleton, at) brings

  pub outputs_run : JsonOutputsRun n
  outputs_run p turns skeleton range stack place o at json (inl off) =
      objects_run IsEventInRange ValuesInRange event_in_range Quiet (λ x is. is.2) (λ x is. (rested_json x is.0, is.1, tt)) quiet_goes
      quiet_set stack p turns place skeleton
      (subst (λ (x : Option (Numbered N)). IfSome x (λ (y : Numbered N). Quiet y.out)) (sym at) (json.0, off, json.1)) range
  outputs_run p turns skeleton range stack place o at json (inr (each, formatted)) =
      objects_run IsBoth AreBoth event_is_both Whole (λ x is. is.2) (λ x is. (rested_json x is.0, is.1, tt)) whole_goes whole_set
      stack p turns place skeleton
      (subst (λ (x : Option (Numbered N)). IfSome x (λ (y : Numbered N). Whole y.out)) (sym at) (json.0, each, json.1))
      (all_brought (steps_of turns) range formatted)
