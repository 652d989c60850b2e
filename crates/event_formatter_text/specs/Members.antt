-- Members that a visitor keeps, and what a formatter keeps of them.
use Rattle.std.specs.Prelude.{◌≡◌, ℕ, List, [], Option, Some, None, Result, Ok, Err, map}
use Rattle.std.specs.Option.{option_map}
use Rattle.tracing_core_fields.specs.PlainDebug.{PlainDebug}
use Rattle.tracing_core_fields.specs.PlainField.{PlainField}
use Rattle.tracing_core_fields.specs.requests.PlainRequests.{PlainValues}
use Rattle.event_formatter_text.specs.FieldTexts.{plain_name}
use Rattle.event_formatter_text.specs.JsonObjects.{Pair, object_text, pair_of, pairs_in, put, put_all, words_of}
use Rattle.event_formatter_text.specs.JsonTexts.{json_value}
use Rattle.event_formatter_text.specs.SpanFields.{PlainFields}
use Rattle.event_formatter_text.specs.declared.error.FormatError.{FormatError}
use Rattle.event_formatter_text.specs.declared.error.FormatError.TheVariants.{Failed, OutOfMemory}
use Rattle.event_formatter_text.specs.declared.members.MembersVisitor.{MembersVisitor}

-- the members that are left, or there are none since a value can't be formatted
abbrev pub Keeps : Option (List Pair) → Result (Unit {0}) FormatError → List Pair → Type 0
Keeps (Some pairs) (Ok done) new = new ≡ pairs
Keeps None (Ok done) new = ⊥
Keeps (Some pairs) (Err Failed) new = ⊥
Keeps None (Err Failed) new = Unit {0}
Keeps pairs (Err OutOfMemory) new = Unit {0}

abbrev pub kept_pairs : MembersVisitor → List Pair
kept_pairs visitor = map pair_of visitor.members.items

-- One member more is kept. A value that can't be formatted is told as that, never as out of memory.
abbrev pub KeepsOne : Option (List Pair) → Result (Unit {0}) FormatError → List Pair → Type 0
KeepsOne (Some pairs) (Ok done) new = new ≡ pairs
KeepsOne None (Ok done) new = ⊥
KeepsOne (Some pairs) (Err Failed) new = ⊥
KeepsOne None (Err Failed) new = Unit {0}
KeepsOne (Some pairs) (Err OutOfMemory) new = Unit {0}
KeepsOne None (Err OutOfMemory) new = ⊥

abbrev pub KeepsMember : MembersVisitor → PlainField → PlainDebug → Result (Unit {0}) FormatError → MembersVisitor → Type 0
KeepsMember before field value answer after =
    KeepsOne (option_map (λ text. put (plain_name field.name) text (kept_pairs before)) (json_value value)) answer
    (kept_pairs after)

-- the values as one object: the last value of each key, in byte order of the keys
abbrev pub values_object : PlainValues → Option (List ℕ)
values_object values = option_map object_text (put_all values.names values.entries [])

-- what one more list of values makes of an object that is kept
abbrev pub with_members : PlainValues → PlainFields → Option PlainFields
with_members values fields =
    option_map (λ pairs. record fields { text = object_text pairs; words = words_of pairs })
    (put_all values.names values.entries (pairs_in fields.words))
