use Rattle.tracing_core.proofs.CachePreservation.{lent_keeps}
use Rattle.std.proofs.Common.{refl}
use Rattle.tracing_core.proofs.hub.Hub.subscriber_mut.Goals as goal

pub returns : goal.returns
returns g c = (
  refl,
  record {
    lent = c.lend.ensures.lent;
    others = λ w. lent_keeps g.S.Subscriber g.C.Callsite c.args.self.now
        c.args.dispatch.now w;
    ends = tt;
  },
)
