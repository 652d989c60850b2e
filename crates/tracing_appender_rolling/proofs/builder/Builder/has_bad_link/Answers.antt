use Rattle.std.proofs.Common.{ap, sym, ◌∙◌, string_bytes}
use Rattle.std.specs.Option.{option_map}
use Rattle.tracing_appender_rolling.specs.Builders.{builder_names}
use Rattle.tracing_appender_rolling.proofs.BuildRefusals.{link_bad, link_good}
use Rattle.tracing_appender_rolling.proofs.builder.Builder.has_bad_link.Goals as goal

pub returns-in-Some-clause-bad : goal.returns-in-Some-clause-bad
returns-in-Some-clause-bad c = λ is.
    link_bad (builder_names c.args.self.now) (string_bytes c.in-Some.link) (ap (option_map string_bytes) c.in-Some.is) c.second_named.result
    (rw c.as_bytes.ensures.value at c.second_named.ensures.some) (sym c.is_some.ensures ∙ is)

pub returns-in-Some-clause-good : goal.returns-in-Some-clause-good
returns-in-Some-clause-good c = λ is.
    link_good (builder_names c.args.self.now) (string_bytes c.in-Some.link) (ap (option_map string_bytes) c.in-Some.is)
    c.second_named.result (rw c.as_bytes.ensures.value at c.second_named.ensures.none) (sym c.is_some.ensures ∙ is)
