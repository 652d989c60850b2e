use Rattle.tracing_core_fields.specs.Metadata.{plain_metadata}
use Rattle.span_tracing_steps.specs.Setup.{own_at}
use Rattle.span_tracing.proofs.Sites.{is_there, refuses}
use Rattle.span_tracing.proofs.site.Site.register.Goals as goal

pub unreachable-requires : goal.unreachable-requires
unreachable-requires g c =
    is_there g.T.Subscriber c.args.trace.now c.register.new.self
    (own_at c.callsite-identifier.result.0 (plain_metadata c.args.metadata.now)) _ c.in_ok-_interest.ensures c.in-None.ensures.names

pub returns-in_err-_interest-clause-registers : goal.returns-in_err-_interest-clause-registers
returns-in_err-_interest-clause-registers g c =
    refuses g.T.Subscriber c.args.trace.now c.register.new.self (plain_metadata c.args.metadata.now) c.from_residual.result
    c.in_err-_interest.field-0.0 c.from_residual.ensures.1 (rw (← c.callsite-identifier.ensures) c.in_err-_interest.ensures)

pub returns-clause-registers : goal.returns-clause-registers
returns-clause-registers g c = (
  c.in_ok-_interest._interest,
  rw (← c.callsite-identifier.ensures) c.in_ok-_interest.ensures,
  c.callsite-identifier.ensures,
  rw (← c.callsite-identifier.ensures) c.in-Some.ensures.names,
)
