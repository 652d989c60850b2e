use Rattle.std.proofs.Common.{◌∙◌, ap}
use Rattle.tracing_core_moments.specs.Names.{name_at}
use Rattle.tracing_appender_rolling.specs.Builders.{builder_names}
use Rattle.tracing_appender_rolling.proofs.PeriodFacts.{name_is, taken_second}
use Rattle.tracing_appender_rolling.proofs.builder.Builder.join_date.Goals as goal

pub returns : goal.returns
returns c =
    let names = builder_names c.args.self.now in
    c.in_ok-name.ensures ∙ ap (name_at names.kind names.prefix names.suffix) (taken_second c.args.moment c.requires) ∙
    name_is names c.args.moment.seconds
