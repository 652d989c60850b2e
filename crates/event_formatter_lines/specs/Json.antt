-- The JSON format.
use Rattle.std.specs.Prelude.{ℕ, Bool, true, false, ◌&&◌, ◌-◌, nat_eq, if◌then◌else◌, List, [], ◌∷◌, ◌++◌, length, Option, Some, None}
use Rattle.std.specs.Prelude.{codes}
use Rattle.std.specs.Fmt.{decimal}
use Rattle.std.specs.List.{ends_with, join_by, last_or, slice_range, starts_with}
use Rattle.std.specs.Option.{option_map}
use Rattle.tracing_core_fields.specs.Level.{level_name}
use Rattle.tracing_core_fields.specs.requests.PlainRequests.{PlainValues}
use Rattle.event_formatter_text.specs.MemberChains.{members_of}
use Rattle.event_formatter_text.specs.Escapes.{json_string}
use Rattle.event_formatter_lines.specs.Heads.{PlainHead}
use Rattle.event_formatter_lines.specs.Shown.{PlainShown}
use Rattle.event_formatter_lines.specs.declared.json.JsonShape.{JsonShape}

-- the fields in an object of their own, and all that is known of the spans
abbrev pub default_shape : JsonShape
default_shape = record { flatten_event = false; current_span = true; span_list = true }

-- a key in which nothing is to be escaped, and a colon
unfoldable pub key_text : List ℕ → List ℕ
key_text key = codes "\"" ++ key ++ codes "\":"

-- a member, where there is a value
abbrev pub member_if : List ℕ → Option (List ℕ) → List (List ℕ)
member_if key None = []
member_if key (Some value) = (key_text key ++ value) ∷ []

-- a text as a member, where there is one
abbrev pub text_member : List ℕ → Option (List ℕ) → List (List ℕ)
text_member key text = member_if key (option_map json_string text)

-- an object with these members
abbrev pub object_of : List (List ℕ) → List ℕ
object_of members = codes "{" ++ join_by (λ member. member) (codes ",") members ++ codes "}"

-- what stands between braces, where the text begins and ends with them
abbrev pub inside_braces : List ℕ → Option (List ℕ)
inside_braces text =
    if starts_with nat_eq text (codes "{") && ends_with nat_eq text (codes "}")
    then Some (slice_range text 1 (length text - 1))
    else None

-- the text of an object's members as it is, where there is any
abbrev pub members_as_kept : List ℕ → List (List ℕ)
members_as_kept [] = []
members_as_kept (b ∷ bs) = (b ∷ bs) ∷ []

-- a text that isn't an object under the key `field`, where it isn't empty
abbrev pub field_as_kept : List ℕ → List (List ℕ)
field_as_kept [] = []
field_as_kept (b ∷ bs) = text_member (codes "field") (Some (b ∷ bs))

-- the members of a span's kept text, by what stands between its braces
abbrev pub kept_by : Option (List ℕ) → List ℕ → List (List ℕ)
kept_by (Some members) text = members_as_kept members
kept_by None text = field_as_kept text

abbrev pub kept_members : List ℕ → List (List ℕ)
kept_members text = kept_by (inside_braces text) text

-- a span: what is kept of its fields, and its name
unfoldable pub span_object : PlainShown → List ℕ
span_object span = object_of (kept_members span.text ++ text_member (codes "name") (Some span.name))

-- the objects of spans, where there are any
abbrev pub span_array : List PlainShown → Option (List ℕ)
span_array [] = None
span_array (span ∷ spans) = Some (codes "[" ++ join_by span_object (codes ",") (span ∷ spans) ++ codes "]")

abbrev pub where_asked : Bool → Option (List ℕ) → Option (List ℕ)
where_asked true value = value
where_asked false value = None

-- the members of the spans: the last one, and all of them
abbrev pub span_members : JsonShape → List PlainShown → List (List ℕ)
span_members shape spans =
    member_if (codes "span") (where_asked shape.current_span (option_map span_object (last_or None spans)))
    ++ member_if (codes "spans") (where_asked shape.span_list (span_array spans))

-- the members before the fields
abbrev pub first_members : PlainHead → List (List ℕ)
first_members head =
    text_member (codes "timestamp") head.time ++ text_member (codes "level") (option_map level_name head.level)

-- the members of the fields, in an object of their own or not; none where a value can't be formatted
abbrev pub field_members : Bool → PlainValues → Option (List (List ℕ))
field_members true values = members_of values
field_members false values =
    option_map (λ members. member_if (codes "fields") (Some (object_of members))) (members_of values)

-- where the event happened
abbrev pub place_members : PlainHead → List (List ℕ)
place_members head =
    text_member (codes "target") head.target ++ text_member (codes "filename") head.file
    ++ member_if (codes "line_number") (option_map decimal head.line)

abbrev pub thread_members : PlainHead → List (List ℕ)
thread_members head = text_member (codes "threadName") head.thread_name ++ text_member (codes "threadId") head.thread_id

-- the members behind the fields
abbrev pub last_members : JsonShape → PlainHead → List PlainShown → List (List ℕ)
last_members shape head spans = place_members head ++ span_members shape spans ++ thread_members head

-- an object on a line, where its fields can be formatted
abbrev pub object_line : List (List ℕ) → Option (List (List ℕ)) → List (List ℕ) → Option (List ℕ)
object_line before fields behind = option_map (λ members. object_of (before ++ members ++ behind) ++ codes "\n") fields

-- the line
abbrev pub json_line : JsonShape → PlainHead → List PlainShown → PlainValues → Option (List ℕ)
json_line shape head spans values =
    object_line (first_members head) (field_members shape.flatten_event values) (last_members shape head spans)

-- what stands before the fields of a line that shows time and level, and the fields in an object of their own
abbrev pub before_fields : List ℕ → ℕ → List ℕ
before_fields time level =
    codes "{\"timestamp\":" ++ json_string time ++ codes ",\"level\":" ++ json_string (level_name level) ++ codes ",\"fields\":{"

-- what stands behind the fields of a line that shows its target and one span
abbrev pub behind_fields : List ℕ → PlainShown → List ℕ
behind_fields target span =
    codes "},\"target\":" ++ json_string target ++ codes ",\"span\":" ++ span_object span ++ codes ",\"spans\":["
    ++ span_object span ++ codes "]}\n"
