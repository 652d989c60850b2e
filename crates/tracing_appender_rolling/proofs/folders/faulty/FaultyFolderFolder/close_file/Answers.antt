use Rattle.std.proofs.Common.{rules}
use Rattle.tracing_appender_rolling.specs.folders.Contents.{close_plain}
use Rattle.tracing_appender_rolling.proofs.folders.FaultPlans.{file_gives, close_ignores}
use Rattle.tracing_appender_rolling.proofs.folders.faulty.FaultyFolderFolder.close_file.Goals as goal

pub returns-clause-gives : goal.returns-clause-gives
returns-clause-gives c = file_gives c.args.file (close_plain c.args.file) (close_ignores c.args.file) c.make.ensures.made
    (λ free called. search rules)
