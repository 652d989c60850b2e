use Rattle.std.proofs.Common.{◌∙◌, ap}
use Rattle.tracing_appender_rolling.specs.Names.{FileNames}
use Rattle.tracing_appender_rolling.specs.Builders.{kind_of}
use Rattle.tracing_appender_rolling.proofs.PrefixedBuilds.{builds_prefixed}
use Rattle.tracing_appender_rolling.proofs.appender.RollingFileAppender.new.Goals as goal

pub returns : goal.returns
returns g c =
    builds_prefixed g.D.Folder.contents g.D.Folder.failed (kind_of c.args.rotation) c.args.prefix.now c.args.folder c.args.moment
    c.rotation.result c.filename_prefix.result c.build.result
    (c.rotation.ensures.names ∙ ap (λ (n : FileNames). record n { kind = kind_of c.args.rotation }) c.new.ensures.names)
    (c.rotation.ensures.whole ∙ c.new.ensures.whole) c.filename_prefix.ensures.set c.build.ensures.builds c.build.ensures.missed
