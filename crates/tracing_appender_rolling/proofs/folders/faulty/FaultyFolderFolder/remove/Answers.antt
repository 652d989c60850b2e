use Rattle.std.proofs.Common.{rules}
use Rattle.tracing_appender_rolling.proofs.folders.FaultPlans.{made_gives, remove_ignores}
use Rattle.tracing_appender_rolling.proofs.folders.faulty.FaultyFolderFolder.remove.Goals as goal

pub returns-clause-gives : goal.returns-clause-gives
returns-clause-gives c = made_gives (remove_ignores c.args.name.now) c.make.ensures.made (λ free called. search rules)
