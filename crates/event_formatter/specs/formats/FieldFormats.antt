-- The texts of the field formatters.
use Rattle.std.specs.Prelude.{ℕ, List, [], ◌++◌, ◌==◌, Option, codes, length}
use Rattle.std.specs.Option.{option_map}
use Rattle.tracing_core_fields.specs.requests.PlainRequests.{PlainValues}
use Rattle.event_formatter_text.specs.SpanFields.{PlainFields, behind_space}
use Rattle.event_formatter_text.specs.Lists.{pieces_text}
use Rattle.event_formatter_text.specs.Members.{values_object, with_members}
use Rattle.event_formatter_text.specs.Visitors.{default_text, pretty_piece, pretty_text}
use Rattle.event_formatter_text.specs.Writers.{without_styles}
use Rattle.event_formatter_text.specs.declared.settings.Settings.{Settings}
use Rattle.event_formatter.specs.declared.formats.fields.Fields.{Fields}
use Rattle.event_formatter.specs.declared.formats.fields.Fields.TheVariants as fields

-- one more list behind what is kept, a comma and a space before each of its fields but the first of all
abbrev pub behind_comma : PlainFields → PlainValues → Option PlainFields
behind_comma kept values =
    option_map (λ more. record kept { text = kept.text ++ more })
    (pieces_text (codes ", ") (pretty_piece (without_styles kept.settings)) (length kept.text == 0) values.names
    values.entries)

-- the text of a list of values
abbrev pub text_of : Fields → Settings → PlainValues → Option (List ℕ)
text_of fields.Default settings values = default_text settings values
text_of fields.Pretty settings values = pretty_text settings values
text_of fields.PrettyFields settings values = pretty_text settings values
text_of fields.Json settings values = values_object values

-- the text before a span's first list
abbrev pub started_text : Fields → List ℕ
started_text fields.Default = []
started_text fields.Pretty = []
started_text fields.PrettyFields = []
started_text fields.Json = codes "{}"

-- what one more list makes of what is kept
abbrev pub added : Fields → PlainFields → PlainValues → Option PlainFields
added fields.Default kept values = behind_space (default_text kept.settings values) kept
added fields.Pretty kept values = behind_comma kept values
added fields.PrettyFields kept values = behind_space (pretty_text kept.settings values) kept
added fields.Json kept values = with_members values kept
