-- Answers that may be refusals.
use Rattle.std.specs.Prelude.{Option, Some, None, Result, Ok, Err}

-- the refusal, or the answer
abbrev pub or_refused : {A B : Type 0} → Option B → A → Result A B
or_refused None a = Ok a
or_refused (Some e) a = Err e

-- what was before a refusal, or what is after
abbrev pub or_same : {A B : Type 0} → Option B → A → A → A
or_same None before after = after
or_same (Some e) before after = before
