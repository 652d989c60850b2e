use Rattle.std.proofs.Common.{Some, ap, sym, ◌∙◌}
use Rattle.std.specs.declared.num.NonZeroU64.{NonZeroU64}
use Rattle.span_tracing_skeleton.proofs.SpanNames.{number_is}
use Rattle.span_tracing_steps.specs.StackRequests.{named_as}
use Rattle.span_tracing_steps.proofs.requests.name_of.Goals as goal

pub returns-in-Some : goal.returns-in-Some
returns-in-Some c =
    ap (λ (n : NonZeroU64). Some (record { stack = c.args.stack; id = n }))
    (number_is c.into_non_zero_u64.result c.in-Some.id c.into_non_zero_u64.ensures)
    ∙ ap (named_as c.args.stack) (sym c.in-Some.is)
