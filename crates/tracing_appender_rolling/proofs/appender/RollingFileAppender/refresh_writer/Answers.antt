use Rattle.std.proofs.Common.{◌∙◌, sym, subst, refl, inl}
use Rattle.std.specs.declared.alloc.AllocError.{AllocError}
use Rattle.tracing_appender_rolling.specs.declared.faults.Faults.{Faults}
use Rattle.tracing_appender_rolling.specs.Builders.{builder_names}
use Rattle.tracing_appender_rolling.specs.FaultReports.{CountsFaults}
use Rattle.tracing_appender_rolling.proofs.FaultCounts.{switch_failed}
use Rattle.tracing_appender_rolling.proofs.SwitchParts.{switch_opens}
use Rattle.tracing_appender_rolling.proofs.appender.RollingFileAppender.refresh_writer.Goals as goal

pub returns-in-Ok-clause-switched : goal.returns-in-Ok-clause-switched
returns-in-Ok-clause-switched g c =
    let old = c.args.self.now in
    switch_opens AllocError (builder_names old.builder) c.args.moment old.boundary old.current c.in-Ok.file old.faults
    c.prune_old_logs.new.faults c.as_str.result.now (c.as_str.ensures.value ∙ c.in_ok-name.ensures) c.next_date-self.result
    c.next_date-self.ensures
    (g.D.Folder.contents old.folder) (g.D.Folder.contents c.prune_old_logs.new.folder) (g.D.Folder.contents c.create_writer.new.folder)
    (g.D.Folder.contents c.close_file.new.self) c.close_file.result c.in_ok-prune_old_logs.ensures.pruned c.in-Ok.ensures.tries
    c.close_file.ensures.fed c.close_file.ensures.gives

pub returns-clause-anywhere : goal.returns-clause-anywhere
returns-clause-anywhere g c =
    let old = c.args.self.now in
    let n = g.D.Folder.failed old.folder in
    let m = g.D.Folder.failed c.prune_old_logs.new.folder in
    let k = g.D.Folder.failed c.create_writer.new.folder in
    let counted = c.in_ok-prune_old_logs.ensures.counts in
    record {
      switches = 1;
      retentions = counted.0;
      counts = subst (λ (f : Faults). CountsFaults 1 counted.0 n old.faults f k) (sym c.after_switch-self.ensures)
          (switch_failed counted.0 n m k old.faults c.prune_old_logs.new.faults c.in-Fault.fault counted.1
          (rw c.in-Fault.is at c.in-Err.ensures.error));
      moved = c.next_date-self.ensures;
      failed_stays = inl refl;
    }
