use Rattle.std.proofs.Common.{arith, refl}
use Rattle.tracing_core_fields.specs.requests.Calls.{Dropped}
use Rattle.tracing_core.proofs.HandleCalls.{to_nobody, to_opened}
use Rattle.tracing_core.proofs.hub.handing.drop_span_at.Goals as goal

pub returns : goal.returns
returns g c =
    to_opened g.S.Subscriber (Dropped c.args.span c.args.at) c.args.serial c.args.subscribers.now c.index_or_end-index.result
    c.index_or_end-index.ensures
    (omega arith) c.index-subscribers-index.result _ _ tt c.registered.view_is refl c.drop_span.ensures

pub returns-then-index-subscribers : goal.returns-then-index-subscribers
returns-then-index-subscribers g c =
    to_nobody g.S.Subscriber (Dropped c.args.span c.args.at) c.args.serial c.args.subscribers.now c.index_or_end-index.result
    c.index_or_end-index.ensures (omega arith)
