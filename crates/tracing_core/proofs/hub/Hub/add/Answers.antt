use Rattle.tracing_core.proofs.CachePreservation.{add_keeps, added_others, added_right}
use Rattle.tracing_core.proofs.hub.Hub.add.Goals as goal

pub returns-clause-right : goal.returns-clause-right
returns-clause-right g c = added_right g.S.Subscriber g.C.Callsite c.args.self.now _ c.args.subscriber c.take_in.result c.take_in.ensures

pub returns-clause-others : goal.returns-clause-others
returns-clause-others g c = added_others g.S.Subscriber g.C.Callsite c.args.self.now _ c.args.subscriber c.take_in.result c.take_in.ensures

pub returns-clause-keeps : goal.returns-clause-keeps
returns-clause-keeps g c = add_keeps g.S.Subscriber g.C.Callsite c.args.self.now _ c.args.subscriber c.take_in.result c.take_in.ensures
