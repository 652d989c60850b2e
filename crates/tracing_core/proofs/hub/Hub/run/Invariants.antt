use Rattle.std.proofs.Common.{◌≡◌, ◌+◌, ◌≤◌, length, vec_len, vec_capacity}
use Rattle.std.specs.Vec.Iter.{into_iter_items, into_iter_len}
use Rattle.tracing_core.specs.CachePreservation.{PreservesCaches, PreservesLivingCaches}
use Rattle.tracing_core_fields.specs.requests.Lists.{Every}
use Rattle.tracing_core.specs.CommandReplies.{GivesNothingUp}
use Rattle.tracing_core.proofs.Runs.{Onward}
use Rattle.tracing_core.proofs.hub.Hub.run.Given as goal

abbrev pub invariant-loop-command : goal.invariant-loop-command
invariant-loop-command g l =
    record {
      room : vec_len l.replies + into_iter_len l.command-iterator ≤ vec_capacity l.replies;
      count : into_iter_len l.command-iterator ≡ length (into_iter_items l.command-iterator);
      keeps : PreservesLivingCaches g.S.Subscriber g.C.Callsite l.fn.self l.self;
      all : Every GivesNothingUp l.fn.commands.items → Every GivesNothingUp (into_iter_items l.command-iterator) ×
          PreservesCaches g.S.Subscriber g.C.Callsite l.fn.self l.self;
      onward : Onward g.S.Subscriber g.C.Callsite l.fn.self l.fn.book l.fn.commands.items l.self l.book (into_iter_items l.command-iterator)
          l.replies.items;
    }
