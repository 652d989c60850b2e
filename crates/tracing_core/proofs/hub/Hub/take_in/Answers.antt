use Rattle.std.proofs.Common.{◌≡◌, ◌+◌, ap, ◌∙◌, subst, List, [], ◌∷◌, ◌++◌}
use Rattle.tracing_core_fields.specs.requests.Calls.{DispatchRegistered}
use Rattle.tracing_core_fields.specs.requests.Interests.{PlainInterest}
use Rattle.tracing_core.specs.Commands.{living}
use Rattle.tracing_core.specs.InterestsAndHints.{heard}
use Rattle.tracing_core.specs.CacheRefresh.{Refreshed}
use Rattle.tracing_core.specs.TableRows.{KeptSubscriber}
use Rattle.tracing_core.proofs.hub.Hub.take_in.Goals as goal

pub returns : goal.returns
returns g c =
    let i = c.self.inside in
    let z = c.on_register_dispatch.new.self in
    let new = λ (kept : List PlainInterest). heard z kept (living i.next z) in
    let pushed : c.push_reserved.new.self.items ≡ i.subscribers.items ++ living i.next z ∷ [] = c.push_reserved.ensures.items ∙
    ap (λ (es : List (KeptSubscriber g.row.S.Denot)). es ++ new c.in-Ok.interests.items ∷ []) c.reserve.ensures.items ∙
    ap (λ (kept : List PlainInterest). i.subscribers.items ++ new kept ∷ []) c.in-Ok.ensures in
    rw (← c.self.view_is) (
      c.new.ensures,
      (
        z,
        subst (λ d. g.S.Subscriber.moves c.args.subscriber (DispatchRegistered d) tt z) c.weak_of.ensures c.on_register_dispatch.ensures,
        subst (λ (es : List (KeptSubscriber g.row.S.Denot)). Refreshed g.S.Subscriber g.C.Callsite
            (record {
              subscribers = es;
              next = i.next + 1;
              callsites = i.callsites;
              lanes = i.lanes.items;
              entered = i.entered.items;
              global = i.global;
              greatest = i.greatest;
            }) c.refresh.new.self) pushed c.refresh.ensures.asked,
      ),
    )
