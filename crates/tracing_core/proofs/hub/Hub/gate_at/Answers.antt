use Rattle.std.specs.Prelude.{slice_get}
use Rattle.tracing_core.proofs.Gates.{index_right}
use Rattle.tracing_core.proofs.CachePreservation.{gate_keeps_at}
use Rattle.tracing_core.proofs.hub.Hub.gate_at.Goals as goal

pub returns-clause-asking : goal.returns-clause-asking
returns-clause-asking g c row e b found reaches kept may =
    index_right g.S.Subscriber g.C.Callsite c.args.self.now _ e row c.args.index.0 c.args.at c.look_at.result b c.look_at.ensures found
    reaches kept may

pub returns-clause-keeps : goal.returns-clause-keeps
returns-clause-keeps g c = gate_keeps_at g.S.Subscriber g.C.Callsite c.args.self.now _ c.args.at
    (slice_get c.args.self.now.callsites c.args.index.0) c.look_at.result c.look_at.ensures
