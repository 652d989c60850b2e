use Rattle.std.proofs.Common.{◌≡◌, length, ◌-◌, ◌≤◌}
use Rattle.tracing_appender_rolling.proofs.WriteLoop.{Going}
use Rattle.tracing_appender_rolling.proofs.appender.write_all.Given as goal

abbrev pub invariant-loop-from : goal.invariant-loop-from
invariant-loop-from g l = record {
  within : l.from ≤ length l.bytes;
  going : Going (g.D.Folder.contents l.fn.folder) l.file l.bytes l.from (g.D.Folder.contents l.folder);
  kept : g.D.Folder.failed l.folder ≡ g.D.Folder.failed l.fn.folder;
}

abbrev pub decreases-loop-from : goal.decreases-loop-from
decreases-loop-from g l = length l.bytes - l.from
