-- Values that are owned, and the entries that they give.
use Rattle.std.specs.Prelude.{ℕ, List, map, string_bytes, Option, Some, None}
use Rattle.std.specs.List.{filter_map}
use Rattle.std.specs.Option.{option_map}
use Rattle.tracing_core_fields.specs.PlainDebug.{Written, Unwritable}
use Rattle.tracing_core_fields.specs.PlainValue.{PlainValue, Signed, Unsigned, WideSigned, WideUnsigned, Truth, Text, Bytes, Error, Debug}
use Rattle.tracing_core_fields.specs.declared.owned_value.OwnedValue.{OwnedValue}
use Rattle.tracing_core_fields.specs.declared.owned_value.OwnedValue.TheVariants as owned
use Rattle.tracing_core_fields.specs.declared.owned_value.FieldValue.{FieldValue}

-- what the value is; `Empty` is no value
abbrev pub plain_owned : OwnedValue → Option PlainValue
plain_owned (owned.I64 n) = Some (Signed n)
plain_owned (owned.U64 n) = Some (Unsigned n)
plain_owned (owned.I128 n) = Some (WideSigned n)
plain_owned (owned.U128 n) = Some (WideUnsigned n)
plain_owned (owned.Bool b) = Some (Truth b)
plain_owned (owned.Text text) = Some (Text (string_bytes text))
plain_owned (owned.Bytes bytes) = Some (Bytes bytes.items)
plain_owned (owned.Error text sources) = Some (Error (string_bytes text) (map string_bytes sources.items))
plain_owned (owned.Debug plain alternate) = Some (Debug (Written (string_bytes plain) (string_bytes alternate)))
plain_owned owned.Failing = Some (Debug Unwritable)
plain_owned owned.Empty = None

-- the index and the value, where the value is present
abbrev pub owned_entry : FieldValue → Option (ℕ × PlainValue)
owned_entry given = option_map (λ value. (given.field, value)) (plain_owned given.value)

-- the entries whose values are present, at any index
abbrev pub owned_entries : List FieldValue → List (ℕ × PlainValue)
owned_entries values = filter_map owned_entry values
