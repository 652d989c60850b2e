-- Why a stack isn't held once more.
use Rattle.std.specs.Prelude.{Option, Some, None}
use Rattle.tracing_core.specs.declared.refusal.HandleError.{HandleError}
use Rattle.tracing_core.specs.declared.refusal.HandleError.TheVariants.{Unknown, TooMany}
use Rattle.span_tracing_skeleton.specs.declared.refusal.Refusal.{Refusal}
use Rattle.span_tracing_skeleton.specs.declared.refusal.Refusal.TheVariants.{TooManyHandles}

-- it has as many holds as can be counted; of one that is gone something else is told before
abbrev pub full_by : Option HandleError → Option Refusal
full_by None = None
full_by (Some Unknown) = None
full_by (Some TooMany) = Some TooManyHandles
