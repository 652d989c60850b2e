use Rattle.std.proofs.Common.{ap, set, ◌∙◌}
use Rattle.std.proofs.lemmas.List.{set-get_or}
use Rattle.tracing_core.specs.TableRows.{KeptSubscriber}
use Rattle.tracing_core.proofs.hub.asking.reserve_answers.Goals as goal

pub loop-subscriber-preserved : goal.loop-subscriber-preserved
loop-subscriber-preserved g c =
    let i = c.loop-subscriber.subscriber-index in
    ap (λ (e : KeptSubscriber g.row.S.Denot). set c.loop-subscriber.subscribers i e) c.reserve_answer.ensures
    ∙ set-get_or c.loop-subscriber.subscribers i c.subscriber-item.result ∙ c.loop-subscriber.invariant
