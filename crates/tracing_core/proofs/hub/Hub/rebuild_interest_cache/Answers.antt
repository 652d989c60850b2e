use Rattle.std.proofs.Common.{true, inl, refl}
use Rattle.tracing_core.proofs.CacheRefresh.{formed_off, formed_right}
use Rattle.tracing_core.proofs.CachePreservation.{form_keeps}
use Rattle.tracing_core.proofs.hub.Hub.rebuild_interest_cache.Goals as goal

pub returns-clause-right : goal.returns-clause-right
returns-clause-right g c e there steady callsites =
    formed_right g.S.Subscriber g.C.Callsite true c.args.self.now _ c.form.ensures e (inl refl) there steady callsites

pub returns-clause-keeps : goal.returns-clause-keeps
returns-clause-keeps g c = form_keeps g.S.Subscriber g.C.Callsite true c.args.self.now _ c.form.ensures

pub returns-clause-nobody : goal.returns-clause-nobody
returns-clause-nobody g c none = formed_off g.S.Subscriber g.C.Callsite true c.args.self.now _ c.form.ensures none
