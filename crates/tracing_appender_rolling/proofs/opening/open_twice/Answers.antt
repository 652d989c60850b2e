use Rattle.tracing_appender_rolling.proofs.OutOfMemory.{twice_again, twice_starved}
use Rattle.std.proofs.Common.{refl}
use Rattle.tracing_appender_rolling.proofs.opening.open_twice.Goals as goal

pub returns-in-Err-Fault-clause-tries : goal.returns-in-Err-Fault-clause-tries
returns-in-Err-Fault-clause-tries g c =
    twice_again c.args.name.now (g.D.Folder.contents c.args.folder.now) (g.D.Folder.contents c.open_append.new.self)
    (g.D.Folder.contents c.open_made.new.folder) c.in-Err-Fault.field-0-0 c.open_made.result
    (rw c.in-Err-Fault.field-0-is at c.in-Err-Fault.ensures.gives) c.open_made.ensures.tries

pub returns-in-Err-OutOfMemory-clause-tries : goal.returns-in-Err-OutOfMemory-clause-tries
returns-in-Err-OutOfMemory-clause-tries g c =
    twice_starved c.args.name.now (g.D.Folder.contents c.args.folder.now) (g.D.Folder.contents c.open_append.new.self) _ refl
    (rw c.in-Err-OutOfMemory.field-0-is at c.in-Err-OutOfMemory.ensures.gives)
