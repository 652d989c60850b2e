use Rattle.std.proofs.Common.{◌≡◌, ap, sym, refl, Some}
use Rattle.tracing_core.specs.CommandReplies.{item_of}
use Rattle.tracing_core.proofs.Books.{back_again, same_guard}
use Rattle.tracing_core.proofs.hub.Hub.spend_guard.Goals as goal

pub returns-in-Err-clause-gives : goal.returns-in-Err-clause-gives
returns-in-Err-clause-gives g c =
    let items = c.args.guards.now in
    let number = c.args.number in
    let guard = c.in-Some.guard in
    let there : item_of items number ≡ Some guard = sym c.in-Some.ensures.item in
    let own = same_guard c.args.self.now c.args.lane guard c.in-Err.field-0 (ap (λ p. p.0) (sym c.in-Err.ensures.gives)) in
    let back : c.put_back.new.items ≡ items = back_again items c.spend.new.items c.put_back.new.items number guard c.in-Err.field-0.0 there
    c.in-Some.ensures.state own c.put_back.ensures in
    rw (there, ← c.in-Err.ensures.gives, back) refl
