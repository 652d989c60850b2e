use Rattle.std.proofs.Common.{rules, tests, ◌∙◌, ◌||◌, ap, sym, string_bytes}
use Rattle.std.specs.Prelude.{◌==◌}
use Rattle.std.specs.Option.{option_map}
use Rattle.std.proofs.lemmas.Iterator.{YieldsList-from_slice}
use Rattle.std.proofs.lemmas.Iterator.Search.{any_from_yields_List}
use Rattle.tracing_appender_rolling.specs.Names.{has_bad_byte}
use Rattle.tracing_appender_rolling.proofs.builder.has_bad_byte.Goals as goal

pub returns-in-Some : goal.returns-in-Some
returns-in-Some c =
    any_from_yields_List (λ b. (b == 47) || (b == 0)) _ _ c.any.result c.any.ensures.ran
    (YieldsList-from_slice (string_bytes c.in-Some.text) cc) (λ x b q k. search (rules, tests))
    ∙ sym (ap (λ o. has_bad_byte (option_map string_bytes o)) c.in-Some.is)
