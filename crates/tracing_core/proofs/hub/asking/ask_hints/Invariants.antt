use Rattle.std.proofs.Common.{◌≡◌, take, drop}
use Rattle.tracing_core.specs.InterestsAndHints.{Each, Raises}
use Rattle.tracing_core.proofs.hub.asking.ask_hints.Given as goal

abbrev pub invariant-loop-subscriber : goal.invariant-loop-subscriber
invariant-loop-subscriber g l =
    record {
      done : Each (Raises g.S.Subscriber l.all) 0 (take l.subscriber-index l.fn.subscribers) (take l.subscriber-index l.subscribers)
          l.greatest;
      left : drop l.subscriber-index l.subscribers ≡ drop l.subscriber-index l.fn.subscribers;
    }
