use Rattle.tracing_appender_queue.proofs.queued.WorkTurns.{work_turns}
use Rattle.tracing_appender_queue.proofs.queued.laws.work_goes_in_turn.Goals as goal

pub returns : goal.returns
returns c = work_turns
