use Rattle.std.proofs.Common.{◌≡◌, ◌∙◌, true, if◌then◌else◌, Some, ap, sym}
use Rattle.std.specs.Result.{is_ok}
use Rattle.tracing_core.specs.PlainRequests.{plain_event}
use Rattle.uses.specs.Tallies.{counted}
use Rattle.uses.proofs.Tallies.{event_counts, gate_counts, shown}
use Rattle.uses.proofs.hub.log_event.Goals as goal

pub returns-in-Some-true-clause-counted : goal.returns-in-Some-true-clause-counted
returns-in-Some-true-clause-counted g c =
    λ e reaches stands.
    let counts = event_counts g.C.Callsite c.args.hub.now c.gate.new.self c.args.at e reaches stands c.callsite.result.0 c.gate.result
    (plain_event c.args.event.now) c.event_here.result c.event_here.new.self c.gate.ensures.answer c.event_here.ensures.gives in
    let handed : c.is_ok.result ≡ true = c.is_ok.ensures.value ∙ ap is_ok counts.0 in
    shown e.serial (counted e.subscriber.events) c.event_here.new.self.subscribers counts.1
    ∙ ap (λ b. Some (if b then counted e.subscriber.events else e.subscriber.events)) (sym handed)

pub returns-in_default-clause-counted : goal.returns-in_default-clause-counted
returns-in_default-clause-counted g c =
    λ e reaches stands.
    shown e.serial e.subscriber.events c.gate.new.self.subscribers
    (gate_counts g.C.Callsite c.args.hub.now c.gate.new.self c.args.at e reaches stands c.callsite.result.0 c.gate.result
    c.gate.ensures.answer)
