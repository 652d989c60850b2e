use Rattle.tracing_appender_rolling.specs.Builders.{builder_names}
use Rattle.tracing_appender_queue.specs.worker.Batches.{lines_in}
use Rattle.tracing_appender_queue.proofs.queued.LinesLeft.{works_from, lines_left}
use Rattle.tracing_appender_queue.proofs.queued.queued_sink.QueuedSink.work.Goals as goal

pub returns-clause-files : goal.returns-clause-files
returns-clause-files g c = λ h holds.
    works_from g.D.Folder.contents (builder_names c.args.self.now.appender.builder) c.args.moment c.args.lines h c.args.self.now.waiting
    c.work.new.self c.work.result.taken c.work.result.missed c.work.new.appender c.work.ensures.next c.work.ensures.taken
    (c.work.ensures.handed h holds)

pub returns-clause-left : goal.returns-clause-left
returns-clause-left g c = λ fed d p is agrees.
    lines_left g.D.Folder.contents (lines_in c.args.lines c.args.self.now.waiting.queue) c.args.moment d p c.args.self.now.appender
    c.work.new.appender (c.work.ensures.state fed d p is agrees)
