use Rattle.std.proofs.Common.{◌≡◌, take, drop}
use Rattle.tracing_core.specs.InterestsAndHints.{Each, RowAsked}
use Rattle.tracing_core.proofs.hub.asking.ask_callsites.Given as goal

abbrev pub invariant-loop-callsite : goal.invariant-loop-callsite
invariant-loop-callsite g l =
    record {
      counted : l.index ≡ l.callsite-index;
      done : Each (RowAsked g.S.Subscriber g.C.Callsite l.all) (0, l.fn.subscribers) (take l.callsite-index l.fn.callsites)
          (take l.callsite-index l.callsites) (l.index, l.subscribers);
      left : drop l.callsite-index l.callsites ≡ drop l.callsite-index l.fn.callsites;
    }
