use Rattle.std.proofs.Common.{arith, refl}
use Rattle.tracing_core_fields.specs.Metadata.{plain_metadata}
use Rattle.tracing_core_fields.specs.requests.Calls.{CallsiteRegistered}
use Rattle.tracing_core.proofs.HandleCalls.{nobody_there, to_nobody, to_opened}
use Rattle.tracing_core.proofs.hub.reaching.register_callsite_at.Goals as goal

pub returns-then-index-subscribers-clause-handed : goal.returns-then-index-subscribers-clause-handed
returns-then-index-subscribers-clause-handed g c =
    to_opened g.S.Subscriber (CallsiteRegistered (plain_metadata c.args.metadata.now)) c.args.serial c.args.subscribers.now
    c.index_or_end-index.result c.index_or_end-index.ensures
    c.if-index-subscribers.true c.index-subscribers-index.result _ _ c.register_callsite.result c.registered.view_is refl
    c.register_callsite.ensures.state

pub returns-else-index-subscribers-clause-answer : goal.returns-else-index-subscribers-clause-answer
returns-else-index-subscribers-clause-answer g c e there =
    let none = nobody_there c.args.serial c.args.subscribers.now c.index_or_end-index.result c.index_or_end-index.ensures (omega arith) in
    absurd (cc)

pub returns-else-index-subscribers-clause-handed : goal.returns-else-index-subscribers-clause-handed
returns-else-index-subscribers-clause-handed g c =
    rw c.never.ensures (to_nobody g.S.Subscriber (CallsiteRegistered (plain_metadata c.args.metadata.now)) c.args.serial
    c.args.subscribers.now c.index_or_end-index.result c.index_or_end-index.ensures (omega arith))
