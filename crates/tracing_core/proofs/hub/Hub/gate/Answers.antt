use Rattle.tracing_core.proofs.Gates.{gate_right}
use Rattle.tracing_core.proofs.CachePreservation.{gate_keeps}
use Rattle.tracing_core.proofs.hub.Hub.gate.Goals as goal

pub returns-clause-asking : goal.returns-clause-asking
returns-clause-asking g c row e b found reaches kept may =
    gate_right g.S.Subscriber g.C.Callsite c.args.self.now _ e row c.args.identifier.0 c.args.at c.look.result b c.look.ensures found
    reaches kept may

pub returns-clause-keeps : goal.returns-clause-keeps
returns-clause-keeps g c = gate_keeps g.S.Subscriber g.C.Callsite c.args.self.now _ c.args.identifier.0 c.args.at c.look.result
    c.look.ensures
