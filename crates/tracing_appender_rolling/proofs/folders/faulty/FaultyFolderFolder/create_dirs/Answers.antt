use Rattle.std.proofs.Common.{rules}
use Rattle.tracing_appender_rolling.proofs.folders.FaultPlans.{made_gives, make_ignores}
use Rattle.tracing_appender_rolling.proofs.folders.faulty.FaultyFolderFolder.create_dirs.Goals as goal

pub returns-clause-gives : goal.returns-clause-gives
returns-clause-gives c = made_gives make_ignores c.make.ensures.made (λ free called. search rules)
