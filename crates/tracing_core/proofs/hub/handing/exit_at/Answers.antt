use Rattle.std.proofs.Common.{arith, refl}
use Rattle.tracing_core_fields.specs.requests.Calls.{Exited}
use Rattle.tracing_core.proofs.HandleCalls.{to_nobody, to_opened}
use Rattle.tracing_core.proofs.hub.handing.exit_at.Goals as goal

pub returns : goal.returns
returns g c =
    to_opened g.S.Subscriber (Exited c.args.span.now c.args.at) c.args.serial c.args.subscribers.now c.index_or_end-index.result
    c.index_or_end-index.ensures
    (omega arith) c.index-subscribers-index.result _ _ tt c.registered.view_is refl c.exit.ensures

pub returns-then-index-subscribers : goal.returns-then-index-subscribers
returns-then-index-subscribers g c =
    to_nobody g.S.Subscriber (Exited c.args.span.now c.args.at) c.args.serial c.args.subscribers.now c.index_or_end-index.result
    c.index_or_end-index.ensures (omega arith)
