use Rattle.std.proofs.Common.{◌≡◌, ℕ, List, ◌≤◌, ◌-◌, ◌++◌, length}
use Rattle.tracing_appender_rolling.specs.Builders.{builder_names}
use Rattle.tracing_appender_rolling.specs.AnyFolder.{seen_of}
use Rattle.tracing_appender_queue.specs.worker.Batches.{lines_in, queue_in}
use Rattle.tracing_appender_queue.proofs.worker.StepTurns.{SoFar, SeenSoFar}
use Rattle.tracing_appender_queue.proofs.worker.step.batch.Given as goal

abbrev pub invariant-loop-taken : goal.invariant-loop-taken
invariant-loop-taken g l = record {
  within : l.taken ≤ l.k;
  few : l.missed ≤ l.taken;
  names : builder_names l.appender.builder ≡ builder_names l.fn.appender.builder;
  queued : queue_in l.k l.fn.queue ≡ queue_in (l.k - l.taken) l.queue;
  so_far : (done : List (List ℕ)) × (lines_in l.k l.fn.queue ≡ done ++ lines_in (l.k - l.taken) l.queue) × (length done ≡ l.taken)
      × SoFar g.D.Folder.contents (builder_names l.fn.appender.builder) l.fn.moment l.fn.appender l.appender l.missed l.whole done
      × SeenSoFar (builder_names l.fn.appender.builder) l.fn.moment (seen_of g.D.Folder.failed l.fn.appender) done l.missed
      (seen_of g.D.Folder.failed l.appender);
}

abbrev pub decreases-loop-taken : goal.decreases-loop-taken
decreases-loop-taken g l = l.k - l.taken
