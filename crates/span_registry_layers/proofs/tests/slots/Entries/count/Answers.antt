use Rattle.std.proofs.Common.{◌==◌}
use Rattle.span_registry_layers.specs.KeyedProofs.{replace_keeps}
use Rattle.span_registry_layers.specs.WritingProofs.{writes_under}
use Rattle.span_registry_layers.proofs.tests.slots.Entries.count.Goals as goal

pub returns-in-Some-clause-own : goal.returns-in-Some-clause-own
returns-in-Some-clause-own c =
    let own = c.args.self.now.key.0 in
    let lent = c.in-Some.extensions.now in
    writes_under c.args.context.now c.args.span.now (λ k. k == own) lent c.replace-before.new.self c.in-Some.ensures.lent
    (λ key other. replace_keeps lent c.replace-before.new.self own key _ _ c.replace-before.result other c.replace-before.ensures)
