use Rattle.std.proofs.Common.{◌∙◌, FitsSigned, w64}
use Rattle.std.proofs.lemmas.Result.{IfOk-weaker}
use Rattle.std.proofs.lemmas.Int.{to_z-of_z}
use Rattle.tracing_core_moments.proofs.Years.{text_is}
use Rattle.tracing_core_moments.proofs.date.date_text.Goals as goal

pub returns : goal.returns
returns c =
    let fits : FitsSigned w64 c.args.day = c.ranges.day in
    let is = c.date_of_day-date.ensures ∙ to_z-of_z w64 c.args.day fits in
    IfOk-weaker c.format.result _ _ (λ t h. h ∙ text_is c.date_of_day-date.result c.args.day c.requires is) c.format.ensures.ok
