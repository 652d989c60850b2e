use Rattle.std.proofs.Common.{ap, ◌∙◌}
use Rattle.tracing_appender_rolling.specs.Builders.{builder_names}
use Rattle.tracing_appender_rolling.specs.Retention.{date_in}
use Rattle.tracing_appender_rolling.proofs.NameDates.{date_read}
use Rattle.tracing_appender_rolling.proofs.retention.date_of.Goals as goal

pub returns : goal.returns
returns c =
    let names = builder_names c.args.builder.now in
    date_read names c.as_bytes-name.result.now c.read_name.result c.read_name.ensures.some c.read_name.ensures.none ∙
    ap (date_in names) c.as_bytes-name.ensures.value
