use Rattle.tracing_appender_rolling.proofs.OutOfMemory.{dirs_err, made_err}
use Rattle.tracing_appender_rolling.proofs.opening.open_made.Goals as goal

pub returns-in-Err-clause-tries : goal.returns-in-Err-clause-tries
returns-in-Err-clause-tries g c = dirs_err c.args.name.now (g.D.Folder.contents c.args.folder.now)
    (g.D.Folder.contents c.create_dirs.new.self) c.in-Err.error c.in-Err.ensures.gives

pub returns-in-Err-open_append-clause-tries : goal.returns-in-Err-open_append-clause-tries
returns-in-Err-open_append-clause-tries g c =
    made_err c.args.name.now (g.D.Folder.contents c.args.folder.now) (g.D.Folder.contents c.create_dirs.new.self)
    (g.D.Folder.contents c.open_append.new.self) tt c.in-Err-open_append.error c.in_default.ensures.gives
    c.in-Err-open_append.ensures.gives
