use Rattle.std.proofs.Common.{rules, refl}
use Rattle.tracing_appender_rolling.specs.folders.ListedEntries.{listed_all}
use Rattle.tracing_appender_rolling.proofs.folders.FaultPlans.{viewed_gives, list_ignores}
use Rattle.tracing_appender_rolling.proofs.folders.faulty.FaultyFolderFolder.list.Goals as goal

pub returns-clause-gives : goal.returns-clause-gives
returns-clause-gives c = viewed_gives listed_all (λ e. refl) (list_ignores c.args.prefix.now) c.make.ensures.made
    (λ free called. search rules)
