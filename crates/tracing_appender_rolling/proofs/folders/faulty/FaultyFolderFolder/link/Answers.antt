use Rattle.std.proofs.Common.{rules}
use Rattle.tracing_appender_rolling.proofs.folders.FaultPlans.{made_gives, link_ignores}
use Rattle.tracing_appender_rolling.proofs.folders.faulty.FaultyFolderFolder.link.Goals as goal

pub returns-clause-gives : goal.returns-clause-gives
returns-clause-gives c = made_gives (link_ignores c.args.name.now c.args.target.now) c.make.ensures.made (λ free called. search rules)
