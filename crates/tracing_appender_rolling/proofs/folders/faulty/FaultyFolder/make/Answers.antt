use Rattle.std.proofs.Common.{rules, refl}
use Rattle.tracing_appender_rolling.proofs.folders.faulty.FaultyFolder.make.Goals as goal

pub returns-clause-made : goal.returns-clause-made
returns-clause-made g c = record {
  refused = λ hit. search rules;
  called = λ free. rw (c.counted-2.ensures.result, c.counted-2.ensures.count)
      (record { shown = _; shows = refl; left = _; met = c.call-answer.ensures; leaves = refl });
  later = search rules;
}
