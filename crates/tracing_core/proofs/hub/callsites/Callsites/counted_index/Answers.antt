use Rattle.std.proofs.Common.{List, subst}
use Rattle.tracing_core.specs.TableRows.{KeptCallsite}
use Rattle.tracing_core.specs.HubInvariant.{AreDistinct, identifiers}
use Rattle.tracing_core.proofs.Callsites.{distinct_place}
use Rattle.tracing_core.proofs.hub.callsites.Callsites.counted_index.Goals as goal

pub returns-then-stands_at : goal.returns-then-stands_at
returns-then-stands_at g c =
    let apart = subst (λ (rows : List (KeptCallsite g.row.C.Denot)). AreDistinct (identifiers rows)) c.self.view_is c.self.invariant.1 in
    distinct_place c.args.self.now _ c.args.identifier apart (c.stands_at.ensures c.if-stands_at.true)
