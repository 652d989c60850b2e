use Rattle.std.proofs.Common.{◌≡◌, ◌∷◌, ◌∙◌, ap, sym, subst, length, arith}
use Rattle.std.specs.Vec.Iter.{into_iter_items}
use Rattle.tracing_core_fields.specs.requests.Lists.{Every}
use Rattle.tracing_core.specs.CommandReplies.{GivesNothingUp, gives_up}
use Rattle.tracing_core.proofs.Runs.{begins, goes_on, ends}
use Rattle.tracing_core.proofs.CachePreservation.{itself_keeps, itself_living, keeps_by, keeps_then, living_by, living_then}
use Rattle.tracing_core.proofs.hub.Hub.run.Goals as goal

pub loop-command-init : goal.loop-command-init
loop-command-init g c =
    let empty = c.in-Ok.ensures.len in
    let made = c.in-Ok.ensures.capacity in
    let asked = c.len.ensures in
    let left = c.into_iter-command-iterator.ensures.into_iter_gives.1 in
    record {
      room = omega arith;
      count = search;
      keeps = itself_living g.S.Subscriber g.C.Callsite c.args.self.now;
      all = λ none. (
        subst (Every GivesNothingUp) (sym c.into_iter-command-iterator.ensures.into_iter_gives.0) none,
        itself_keeps g.S.Subscriber g.C.Callsite c.args.self.now,
      );
      onward = begins g.S.Subscriber g.C.Callsite c.args.self.now c.args.book.now c.args.commands.items _ _
          c.into_iter-command-iterator.ensures.into_iter_gives.0 c.in-Ok.ensures.items;
    }

pub loop-command-preserved : goal.loop-command-preserved
loop-command-preserved g c =
    let at = c.loop-command in
    let steps : into_iter_items at.command-iterator ≡ c.in-Some.command ∷ into_iter_items c.next.new.self = c.in-Some.ensures.steps.0 in
    let gone = c.in-Some.ensures.steps.1 in
    let short = ap length steps in
    let count = at.invariant.count in
    let room = at.invariant.room in
    let len = c.push_reserved.ensures.len in
    let capacity = c.push_reserved.ensures.capacity in
    record {
      room = omega arith;
      count = omega arith;
      keeps =
          living_then g.S.Subscriber g.C.Callsite c.args.self.now at.self c.carry_out.new.self at.invariant.keeps
          (living_by g.S.Subscriber g.C.Callsite (gives_up c.in-Some.command) at.self c.carry_out.new.self c.carry_out.ensures.keeps);
      all = λ none.
          let before = at.invariant.all none in
          let each : Every GivesNothingUp (c.in-Some.command ∷ into_iter_items c.next.new.self) =
          subst (Every GivesNothingUp) steps before.0 in (
            each.1,
            keeps_then g.S.Subscriber g.C.Callsite c.args.self.now at.self c.carry_out.new.self before.1
                (keeps_by g.S.Subscriber g.C.Callsite (gives_up c.in-Some.command) at.self c.carry_out.new.self each.0
                c.carry_out.ensures.keeps),
          );
      onward = goes_on g.S.Subscriber g.C.Callsite c.args.self.now c.args.book.now c.args.commands.items at.self c.carry_out.new.self
          at.book c.carry_out.new.book
          (into_iter_items at.command-iterator) (into_iter_items c.next.new.self) c.in-Some.command c.carry_out.result at.replies.items
          c.push_reserved.new.self.items
          steps c.push_reserved.ensures.items c.carry_out.ensures.gives at.invariant.onward;
    }

pub returns-clause-ran : goal.returns-clause-ran
returns-clause-ran g c =
    let at = c.loop-command in
    ends g.S.Subscriber g.C.Callsite c.args.self.now c.args.book.now c.args.commands.items at.self at.book
    (into_iter_items at.command-iterator) at.replies.items (sym at.invariant.count ∙ c.in-None.ensures.steps.0) at.invariant.onward

pub returns-in_default-clause-keeps : goal.returns-in_default-clause-keeps
returns-in_default-clause-keeps g c = itself_living g.S.Subscriber g.C.Callsite c.args.self.now

pub returns-clause-all : goal.returns-clause-all
returns-clause-all g c none = (c.loop-command.invariant.all none).1
