use Rattle.std.proofs.Common.{◌≡◌, ◌∙◌, ap, ◌+ℤ◌, FitsSigned, w64, to_z, of_z}
use Rattle.std.proofs.lemmas.Int.{to_z-of_z}
use Rattle.std.proofs.lemmas.Result.{IfOk-at_ok}
use Rattle.jiff.specs.Words.{epoch_day}
use Rattle.tracing_core_moments.proofs.Days.{first_day, past_zero}
use Rattle.tracing_core_moments.proofs.date.date_of_day.Goals as goal

pub unwrap-requires : goal.unwrap-requires
unwrap-requires c =
    let fits : FitsSigned w64 c.args.day = c.ranges.day in
    let zero = ap epoch_day c.to_plain.ensures ∙ first_day c.date.result c.date.ensures in
    let same : epoch_day c.to_plain.result +ℤ to_z w64 (of_z w64 c.args.day) ≡ c.args.day =
    rw to_z-of_z (past_zero (epoch_day c.to_plain.result) c.args.day zero) in
    c.checked_add.ensures.succeeds.1 (rw same c.requires)

pub returns : goal.returns
returns c =
    let fits : FitsSigned w64 c.args.day = c.ranges.day in
    let zero = ap epoch_day c.to_plain.ensures ∙ first_day c.date.result c.date.ensures in
    let same : epoch_day c.to_plain.result +ℤ to_z w64 (of_z w64 c.args.day) ≡ c.args.day =
    rw to_z-of_z (past_zero (epoch_day c.to_plain.result) c.args.day zero) in
    ap epoch_day c.from_plain.ensures ∙ IfOk-at_ok _ c.unwrap.ensures c.checked_add.ensures.value ∙ same
