-- What values that were written ahead print.
use Rattle.std.specs.Prelude.{ℕ, List, Option, Some, None, string_bytes}
use Rattle.tracing_core_fields.specs.PlainDebug.{PlainDebug, Written, Unwritable}
use Rattle.tracing_core_fields.specs.declared.shown.DebugValue.{DebugValue}
use Rattle.tracing_core_fields.specs.declared.shown.DisplayValue.{DisplayValue}

-- the text in both forms, or that it fails
abbrev pub plain_display : DisplayValue → PlainDebug
plain_display shown = elim shown.text [ None ↦ Unwritable | Some text ↦ Written (string_bytes text) (string_bytes text) ]

-- the two texts, or that they fail
abbrev pub plain_shown : DebugValue → PlainDebug
plain_shown shown = elim shown.texts [ None ↦ Unwritable | Some texts ↦ Written (string_bytes texts.plain) (string_bytes texts.alternate) ]

-- the plain text, where it was written
abbrev pub plain_text : PlainDebug → Option (List ℕ)
plain_text (Written plain alternate) = Some plain
plain_text _ = None
