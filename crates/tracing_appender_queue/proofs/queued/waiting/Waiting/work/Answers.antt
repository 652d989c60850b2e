use Rattle.std.proofs.Common.{◌∙◌, sym, ap, subst}
use Rattle.tracing_appender_queue.specs.Queue.{Queue}
use Rattle.tracing_appender_rolling.specs.Builders.{builder_names}
use Rattle.tracing_appender_queue.specs.worker.Batches.{lines_in}
use Rattle.tracing_appender_queue.specs.worker.Steps.{HandsAll}
use Rattle.tracing_appender_queue.specs.queued.LineFates.{WaitingLines}
use Rattle.tracing_appender_queue.proofs.queued.LossyQueues.{stays_lossy}
use Rattle.tracing_appender_queue.proofs.queued.waiting.Waiting.work.Goals as goal

pub invariant_of-self : goal.invariant_of-self
invariant_of-self g c = λ is. c.self.invariant (sym (stays_lossy c.args.lines c.self.inside.queue) ∙
    ap (λ (q : Queue). q.lossy) (sym c.batch-batched.ensures.queue) ∙ is)

pub returns-clause-handed : goal.returns-clause-handed
returns-clause-handed g c = λ h holds.
    subst (λ (w : WaitingLines). HandsAll g.D.Folder.contents (builder_names c.args.appender.now.builder) c.args.moment h
    (lines_in c.args.lines w.queue) c.batch-batched.result.missed c.batch-batched.new.appender) c.self.view_is
    (c.batch-batched.ensures.handed h holds)
