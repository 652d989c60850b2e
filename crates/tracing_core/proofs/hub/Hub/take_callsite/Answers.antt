use Rattle.std.proofs.Common.{◌≡◌, ◌++◌, true, ap, sym, ◌∙◌, refl, arith, take, drop, length}
use Rattle.std.proofs.lemmas.List.{with_items_is}
use Rattle.tracing_core.specs.Commands.{new_callsite}
use Rattle.tracing_core.specs.Table.{Table}
use Rattle.tracing_core.proofs.Tables.{asked_alike, kept_at, same_at}
use Rattle.tracing_core.proofs.hub.Hub.take_callsite.Goals as goal

pub returns-in-Ok : goal.returns-in-Ok
returns-in-Ok g c =
    let i = c.self.inside in
    let taken = c.in-Ok.ensures in
    let whole : take i.subscribers.len (c.take.new.subscribers ++ drop (length c.take.new.subscribers) i.subscribers.items)
    ≡ c.take.new.subscribers = with_items_is i.subscribers c.take.new.subscribers (omega arith) in
    record {
      real = taken.0;
      unknown = c.requires;
      row = taken.1;
      asked = asked_alike g.S.Subscriber g.C.Callsite true _ _ _ _ _ _ (new_callsite g.C.Callsite c.args.callsite)
          (new_callsite g.C.Callsite c.args.callsite) taken.1
          (ap (λ (t : Table g.row.S.Denot g.row.C.Denot). length t.callsites) c.self.view_is) (c.deref_mut.ensures.value ∙
          ap (λ (t : Table g.row.S.Denot g.row.C.Denot). t.subscribers) c.self.view_is) refl (sym whole) taken.2;
      told = taken.3;
      kept = kept_at _ _ _ _ taken.1 c.self.view_is taken.4;
    }

pub returns-in-Err : goal.returns-in-Err
returns-in-Err g c =
    let i = c.self.inside in
    let left = c.in-Err.ensures in
    let whole : take i.subscribers.len (c.take.new.subscribers ++ drop (length c.take.new.subscribers) i.subscribers.items)
    ≡ c.take.new.subscribers = with_items_is i.subscribers c.take.new.subscribers (omega arith) in
    (left.0, same_at _ _ _ _ c.self.view_is (whole ∙ left.2 ∙ c.deref_mut.ensures.value) left.1)
