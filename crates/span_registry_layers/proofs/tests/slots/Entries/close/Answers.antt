use Rattle.std.proofs.Common.{◌==◌, refl}
use Rattle.span_registry_layers.specs.WritingProofs.{writes_under}
use Rattle.span_registry_layers.proofs.tests.slots.Entries.close.Goals as goal

pub returns-in-Some-clause-own : goal.returns-in-Some-clause-own
returns-in-Some-clause-own c =
    let lent = c.in-Some.extensions.now in
    writes_under c.args.context.now c.args.span.now (λ k. k == c.args.self.now.key.0) lent lent c.in-Some.ensures.lent (λ key other. refl)
