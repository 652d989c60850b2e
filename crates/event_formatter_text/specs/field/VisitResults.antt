-- What a visitor that is finished may give.
use Rattle.std.specs.Prelude.{Result, Ok, Err}
use Rattle.tracing_core_fields.specs.PlainDebug.{PlainDebug}
use Rattle.tracing_core_fields.specs.PlainField.{PlainField}
use Rattle.tracing_core_fields.specs.PlainValue.{debug_of}
use Rattle.tracing_core_fields.specs.Visits.{Visits}
use Rattle.tracing_core_fields.specs.requests.PlainRequests.{PlainValues}

-- The visitor took all values and gave this at the end, or refused one of them.
abbrev pub VisitsAndFinishes : {V E Out : Type 0} → (V → PlainField → PlainDebug → Result (Unit {0}) E → V → Type 0) → (V → Out → Type 0) →
    PlainValues → V → Result Out E → Type 0
VisitsAndFinishes {V} shows finishes values before (Ok out) =
    (after : V) × Visits (λ v field value answer w. shows v field (debug_of value) answer w) values.callsite values.names values.entries
    before (Ok tt) after × finishes after out
VisitsAndFinishes {V} shows finishes values before (Err error) =
    (after : V) × Visits (λ v field value answer w. shows v field (debug_of value) answer w) values.callsite values.names values.entries
    before (Err error) after

-- A visitor was made that took all values and gave this at the end, or refused one of them.
pub record VisitsMade {V E Out : Type 0} (makes : V → Type 0) (shows : V → PlainField → PlainDebug → Result (Unit {0}) E → V → Type 0)
    (finishes : V → Out → Type 0) (values : PlainValues) (answer : Result Out E) : Type 0 where
  pub visitor : V
  pub is_made : makes visitor
  pub visits : VisitsAndFinishes shows finishes values visitor answer
