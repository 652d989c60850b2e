use Rattle.span_registry_layers_store.proofs.IdOrder.{pushed_rising}
use Rattle.span_registry_layers_store.proofs.tests.plain.PlainSpans.push.Goals as goal

pub invariant_of-self-2 : goal.invariant_of-self-2
invariant_of-self-2 c = pushed_rising c.self.inside.spans.items c.push.new.self.items
    (record { kin = c.args.kin; metadata = c.args.metadata; passed = c.args.passed; extensions = c.new.result })
    c.in_ok-push.ensures.items (rw (c.self.view_is) c.requires) c.self.invariant
