use Rattle.std.proofs.Common.{ap, sym, ◌∙◌, subst, refl, arith}
use Rattle.tracing_appender_rolling.specs.Builders.{builder_names}
use Rattle.tracing_appender_rolling.specs.declared.build.BuildError.{BuildError}
use Rattle.tracing_appender_rolling.specs.Builds.{Explains, ReportsBuild}
use Rattle.tracing_appender_rolling.proofs.BuildRefusals.{explained, text_missed, told_build}
use Rattle.tracing_appender_rolling.proofs.builder.Builder.build.Goals as goal

pub returns-in-Err-clause-builds : goal.returns-in-Err-clause-builds
returns-in-Err-clause-builds g c =
    let names = builder_names c.args.self in
    let r = c.in-Err.refused in
    record {
      names_same = ap builder_names c.in-Err.ensures.back;
      explained = subst (λ (e : BuildError). Explains g.D.Folder.contents names c.args.folder c.args.moment e r.folder)
          (sym c.build_error.ensures)
          (explained g.D.Folder.contents names c.args.folder c.args.moment r.context r.error r.folder (sym c.has_bad_name.ensures ∙
          c.if-has_bad_name.false) (c.if-has_bad_link.ensures.good refl) c.in-Err.ensures.failed c.in-Err.ensures.starved);
      told = subst (λ (e : BuildError). ReportsBuild (g.D.Folder.failed c.args.folder) e (g.D.Folder.failed r.folder))
          (sym c.build_error.ensures)
          (told_build (g.D.Folder.failed c.args.folder) (g.D.Folder.failed r.folder) r.context r.error c.in-Err.ensures.error);
    }

pub returns-in-Ok-clause-builds : goal.returns-in-Ok-clause-builds
returns-in-Ok-clause-builds g c =
    let good = c.if-has_bad_link.ensures.good refl in
    record {
      good_name = sym c.has_bad_name.ensures ∙ c.if-has_bad_name.false;
      good_link = good;
      names_same = ap builder_names c.in-Ok.ensures.builder;
      opened = c.in-Ok.ensures.held;
      sink = λ d is may. c.in-Ok.ensures.state d is good may;
      counted = c.in-Ok.ensures.counted;
    }

pub returns-then-not-self-clause-builds : goal.returns-then-not-self-clause-builds
returns-then-not-self-clause-builds g c = record {
  names_same = refl;
  explained = text_missed g.D.Folder.contents (builder_names c.args.self) c.args.folder c.args.moment (sym c.has_bad_name.ensures ∙
      c.if-has_bad_name.false) (c.if-has_bad_link.ensures.good refl);
  told = omega arith;
}
