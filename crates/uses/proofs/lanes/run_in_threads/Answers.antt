use Rattle.std.proofs.Common.{◌≡◌}
use Rattle.uses.proofs.lanes.run_in_threads.Goals as goal

pub run_lanes-requires-clause-lanes : goal.run_lanes-requires-clause-lanes
run_lanes-requires-clause-lanes g c κs within = (c.fits.ensures.0 c.if-not-fits.false).1
