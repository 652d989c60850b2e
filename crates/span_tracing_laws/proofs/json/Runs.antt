-- Lines of outputs of JSON.
use Rattle.std.proofs.Common.{◌≡◌, ◌⊎◌, inl, inr, ℕ, Bool, true, false, List, [], ◌∷◌, Option, Some, None, IfSome, IsSome, refl, sym, ap}
use Rattle.std.proofs.Common.{subst}
use Rattle.std.specs.List.{AllByRecursion}
use Rattle.tracing_core_fields.specs.PlainMetadata.{PlainMetadata}
use Rattle.tracing_core_fields.specs.requests.PlainRequests.{PlainEvent}
use Rattle.span_registry_layers_store.specs.declared.slot.Timings.{Timings}
use Rattle.event_formatter_text.specs.declared.format_fields.FormatFields.{Ghosts}
use Rattle.event_formatter_text.specs.declared.settings.Settings.{Settings}
use Rattle.event_formatter_lines.specs.JsonLaws.{IsObject, IsObjectLine, ObjectsAreKept}
use Rattle.event_formatter.specs.formats.Contexts.{PlainContext}
use Rattle.event_formatter.specs.fmt_layer.Lines.{fault_if, line_or_fault}
use Rattle.event_formatter.specs.fmt_layer.Threads.{PlainLane}
use Rattle.event_formatter.specs.declared.fmt_layer.layer.Config.{Config}
use Rattle.span_tracing_outputs.specs.OutputMachines.{Fated, Happened, Heard, OnSpan, PlainLine, PlainOut, Said, close_event, context_of}
use Rattle.span_tracing_outputs.specs.OutputMachines.{line_of_event, message_event, out_run}
use Rattle.span_tracing_laws.specs.json.Objects.{AreFormattedSaid, AreInRange, AreInRangeSaid, AreObjectLines, AreObjectsOrFaults}
use Rattle.span_tracing_laws.specs.json.Objects.{CanBeFormatted}
use Rattle.span_tracing_laws.specs.json.Objects.{FormattedEventsLeaveObjects, IsEventInRange, IsFault, IsFormattedSaid, IsInRangeSaid}
use Rattle.span_tracing_laws.specs.json.Objects.{IsJsonOut, IsPlaceInRange, JsonRuns, KeepsJson, KeepsObjectsOf}
use Rattle.span_tracing_laws.specs.json.Objects.{LinesAreObjectsOrFaults, StaysJson, UntoldFaultsLeaveObjects, WritesEach, WritesObjects}
use Rattle.span_tracing_laws.specs.machines.Lines.{AreLines}
use Rattle.span_tracing_laws.specs.machines.Said.{SaidIs}
use Rattle.span_tracing_laws.proofs.json.Spans.{spans_well}
use Rattle.span_tracing_laws.proofs.machines.Machine.{Goes, run_goes}

-- what becomes of the line of an event
abbrev IsRight : Bool → List ℕ → Type 0
IsRight tells_faults line = IsObjectLine line ⊎ IsFault tells_faults line

fault_is : (tells_faults : Bool) (m : PlainMetadata) → IfSome (fault_if tells_faults m) (IsRight tells_faults)
fault_is true m = inr (m, refl)
fault_is false m = tt

line_is : (tells_faults : Bool) (m : PlainMetadata) (line : Option (List ℕ)) → IfSome line IsObjectLine →
    IfSome (line_or_fault tells_faults m line) (IsRight tells_faults)
line_is tells_faults m None is = fault_is tells_faults m
line_is tells_faults m (Some line) is = inl is

formatted_is : (tells_faults : Bool) (m : PlainMetadata) (line : Option (List ℕ)) → IsSome line → IfSome line IsObjectLine →
    IfSome (line_or_fault tells_faults m line) IsObjectLine
formatted_is tells_faults m None there is = absurd (cc)
formatted_is tells_faults m (Some line) there is = is

no_fault : (line : List ℕ) → IsRight false line → IsObjectLine line
no_fault line (inl is) = is
no_fault line (inr fault) = let none : None ≡ Some line = fault.1 in absurd (cc)

none_are_faults : (lines : List PlainLine) → AreObjectsOrFaults false lines → AreObjectLines lines
none_are_faults [] all = tt
none_are_faults (line ∷ lines) all = (no_fault line.bytes all.0, none_are_faults lines all.1)

objects_are_right : (tells_faults : Bool) (lines : List PlainLine) → AreObjectLines lines → AreObjectsOrFaults tells_faults lines
objects_are_right tells_faults [] all = tt
objects_are_right tells_faults (line ∷ lines) all = (inl all.0, objects_are_right tells_faults lines all.1)

-- any line
abbrev IsAny : List ℕ → Type 0
IsAny line = Unit {0}

any_line : (line : Option (List ℕ)) → IfSome line IsAny
any_line None = tt
any_line (Some line) = tt

any_lines : (lines : List PlainLine) → AllByRecursion (λ (line : PlainLine). IsAny line.bytes) lines
any_lines [] = tt
any_lines (line ∷ lines) = (tt, any_lines lines)

-- wherever it is heard
abbrev Anywhere : Heard → Type 0
Anywhere h = Unit {0}

abbrev Both : PlainEvent → Type 0
Both e = IsEventInRange e × CanBeFormatted e

all_in_range : (ts : List Fated) → AreInRangeSaid ts → AllByRecursion (λ (t : Fated). Anywhere t.heard × IsInRangeSaid t.heard.said) ts
all_in_range [] told = tt
all_in_range (t ∷ ts) told = ((tt, told.0), all_in_range ts told.1)

abbrev IsBothSaid : Said → Type 0
IsBothSaid said = SaidIs IsPlaceInRange AreInRange Both said

both_told : (said : Said) → IsInRangeSaid said → IsFormattedSaid said → IsBothSaid said
both_told (OnSpan id m call) told formatted = told
both_told (Happened e) told formatted = (told, formatted)

all_both : (ts : List Fated) → AreInRangeSaid ts → AreFormattedSaid ts →
    AllByRecursion (λ (t : Fated). Anywhere t.heard × IsBothSaid t.heard.said) ts
all_both [] told formatted = tt
all_both (t ∷ ts) told formatted = ((tt, both_told t.heard.said told.0 formatted.0), all_both ts told.1 formatted.1)

module _ {N : Type 0} (n : Ghosts N) where
  -- the output's own events have values in range, and can be formatted
  message_in_range : (m : PlainMetadata) (id : ℕ) (message : List ℕ) → IsPlaceInRange m → IsEventInRange (message_event n m id message)
  message_in_range m id message place = (place, (tt, tt))

  close_in_range : (m : PlainMetadata) (id : ℕ) (timings : Option Timings) → IsPlaceInRange m → IsEventInRange (close_event n m id timings)
  close_in_range m id None place = (place, (tt, tt))
  close_in_range m id (Some timings) place = (place, (tt, (tt, (tt, tt))))

  message_formatted : (m : PlainMetadata) (id : ℕ) (message : List ℕ) → CanBeFormatted (message_event n m id message)
  message_formatted m id message = refl

  close_formatted : (m : PlainMetadata) (id : ℕ) (timings : Option Timings) → CanBeFormatted (close_event n m id timings)
  close_formatted m id None = refl
  close_formatted m id (Some timings) = refl

  -- made as an output of JSON, and with its settings and its format
  record IsMade (o : PlainOut N) (config : Config N) (line_of : Settings → PlainContext → PlainEvent → Option (List ℕ))
      (lanes : List PlainLane) : Type 0 where
    pub format : WritesObjects line_of
    pub fields : KeepsObjectsOf n config.fields
    pub same_config : config ≡ o.config
    pub same_format : line_of ≡ o.line_of

  module _ (objects : ObjectsAreKept) where
    -- such a line is an object
    object_is : (o p : PlainOut N) → IsMade o p.config p.line_of p.lanes → KeepsJson p → (h : Heard) (e : PlainEvent) → IsEventInRange e →
        IfSome (p.line_of p.config.settings (context_of n p h) e) IsObjectLine
    object_is o p made kept h e is = made.format p.config.settings (context_of n p h) e (spans_well objects p.kept h.loose kept) is

    module _ (o : PlainOut N) (Q : PlainEvent → Type 0) (P : List ℕ → Type 0)
        (offers : (p : PlainOut N) → IsMade o p.config p.line_of p.lanes → KeepsJson p → (h : Heard) → Anywhere h → (e : PlainEvent) → Q e →
        IfSome (line_of_event n p h e) P)
        (messages : (m : PlainMetadata) (id : ℕ) (message : List ℕ) → IsPlaceInRange m → Q (message_event n m id message))
        (closes : (m : PlainMetadata) (id : ℕ) (timings : Option Timings) → IsPlaceInRange m → Q (close_event n m id timings)) where
      goes : (ts : List Fated) → AllByRecursion (λ (t : Fated). Anywhere t.heard × SaidIs IsPlaceInRange AreInRange Q t.heard.said) ts →
          IsJsonOut n o → AreLines P o.lines → Goes n (IsMade o) IsObject IsPlaceInRange AreInRange Anywhere Q P (out_run n o ts)
      goes ts told json all =
          run_goes n (IsMade o) IsObject IsPlaceInRange AreInRange Anywhere Q P offers (λ p made. made.fields.0 p.config.settings)
          (λ p made fields values range is. made.fields.1 fields values range is) messages closes o ts told
          (record {
            made = record { format = json.format; fields = json.fields; same_config = refl; same_format = refl };
            kept = json.kept;
            lines = all;
          })

    lines_are : LinesAreObjectsOrFaults n
    lines_are o ts told json all =
        (goes o IsEventInRange (IsRight o.config.log_internal_errors)
        (λ p made kept h any e is.
        subst (λ (tells : Bool). IfSome (line_of_event n p h e) (IsRight tells)) (ap (λ c. c.log_internal_errors) made.same_config)
        (line_is p.config.log_internal_errors e.metadata (p.line_of p.config.settings (context_of n p h) e)
        (object_is o p made kept h e is)))
        message_in_range close_in_range ts (all_in_range ts told) json all).lines

    untold : UntoldFaultsLeaveObjects n
    untold o ts told json off all =
        none_are_faults (out_run n o ts).lines
        (subst (λ (tells : Bool). AreObjectsOrFaults tells (out_run n o ts).lines) off
        (lines_are o ts told json (objects_are_right o.config.log_internal_errors o.lines all)))

    formatted : FormattedEventsLeaveObjects n
    formatted o ts told can json each all =
        (goes o Both IsObjectLine
        (λ p made kept h any e is.
        formatted_is p.config.log_internal_errors e.metadata (p.line_of p.config.settings (context_of n p h) e)
        (subst WritesEach (sym made.same_format) each p.config.settings (context_of n p h) e is.1) (object_is o p made kept h e is.0))
        (λ m id message place. (message_in_range m id message place, message_formatted m id message))
        (λ m id timings place. (close_in_range m id timings place, close_formatted m id timings)) ts (all_both ts told can) json all).lines

    -- what it keeps, whatever its lines are
    stays : StaysJson n
    stays o ts told json =
        let went = goes o IsEventInRange IsAny (λ p made kept h any e is. any_line (line_of_event n p h e)) message_in_range close_in_range
        ts (all_in_range ts told) json (any_lines o.lines) in (
          record { format = went.made.format; fields = went.made.fields; kept = went.kept },
          record { config = went.made.same_config; format = went.made.same_format },
        )

    pub json_runs : JsonRuns n
    json_runs = record { stays = stays; lines = lines_are; untold = untold; formatted = formatted }
