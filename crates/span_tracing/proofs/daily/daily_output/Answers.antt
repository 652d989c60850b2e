use Rattle.std.proofs.Common.{ap, ◌∙◌}
use Rattle.tracing_core_moments.specs.declared.period.PeriodKind.TheVariants.{Day}
use Rattle.tracing_appender_rolling.specs.Builders.{with_prefix}
use Rattle.tracing_appender_rolling.specs.Names.{FileNames}
use Rattle.span_tracing.proofs.daily.daily_output.Goals as goal

pub returns : goal.returns
returns g c =
    let daily = c.rotation.ensures.names ∙ ap (λ (names : FileNames). record names { kind = Day }) c.new.ensures.names in (
      c.filename_prefix-files.result,
      c.new-folder.result,
      record {
        names = λ whole. c.filename_prefix-files.ensures.names whole ∙ ap (λ (names : FileNames). with_prefix names c.args.prefix.now) daily;
        place = c.new-folder.ensures.path;
      },
      c.file.ensures,
    )
