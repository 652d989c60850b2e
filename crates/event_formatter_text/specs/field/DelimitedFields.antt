-- What a visitor with a delimiter does with a field.
use Rattle.std.specs.Prelude.{◌≡◌, ℕ, List, true, Result}
use Rattle.tracing_core_fields.specs.PlainDebug.{PlainDebug}
use Rattle.tracing_core_fields.specs.PlainField.{PlainField}
use Rattle.event_formatter_text.specs.field.Delimiters.{WritesDelimited}
use Rattle.event_formatter_text.specs.declared.field.delimited.VisitDelimited.{VisitDelimited}

pub record ShowsDelimited {D V E : Type 0} (text : D → List ℕ) (appends : V → List ℕ → Result (Unit {0}) E → V → Type 0) (shows : V →
    PlainField → PlainDebug → Result (Unit {0}) E → V → Type 0) (before : VisitDelimited D V) (field : PlainField) (value : PlainDebug)
    (answer : Result (Unit {0}) E) (after : VisitDelimited D V) : Type 0 where
  pub keeps_delimiter : after.delimiter ≡ before.delimiter
  pub has_seen : after.seen ≡ true
  pub writes : WritesDelimited before.seen (λ v a w. appends v (text before.delimiter) a w) (λ v a w. shows v field value a w) before.inner
      answer after.inner
