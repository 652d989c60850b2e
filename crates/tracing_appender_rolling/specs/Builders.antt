-- What a builder sets.
use Rattle.std.specs.Prelude.{◌≡◌, ◌≢◌, ◌⊎◌, ℕ, List, [], Bool, false, None, string_bytes}
use Rattle.std.specs.Option.{option_map}
use Rattle.tracing_core_moments.specs.declared.period.PeriodKind.{PeriodKind}
use Rattle.tracing_core_moments.specs.declared.period.PeriodKind.TheVariants.{Whole}
use Rattle.tracing_appender_rolling.specs.declared.rotation.Rotation.{Rotation}
use Rattle.tracing_appender_rolling.specs.declared.builder.Builder.{Builder}
use Rattle.tracing_appender_rolling.specs.Names.{FileNames, text_or_none}

abbrev pub kind_of : Rotation → PeriodKind
kind_of r = r.0

abbrev pub builder_names : Builder → FileNames
builder_names b = record {
  kind = kind_of b.rotation;
  prefix = option_map string_bytes b.prefix;
  suffix = option_map string_bytes b.suffix;
  limit = b.limit;
  latest = option_map string_bytes b.latest;
}

-- one file for all of time, without prefix, suffix, limit and link
abbrev pub plain_names : FileNames
plain_names = record { kind = Whole; prefix = None; suffix = None; limit = None; latest = None }

-- files of this kind with this prefix, where it isn't empty
abbrev pub prefixed_names : PeriodKind → List ℕ → FileNames
prefixed_names kind prefix = record plain_names { kind = kind; prefix = text_or_none prefix }

-- each text that was set found memory
abbrev pub is_whole : Builder → Bool
is_whole b = b.is_whole

abbrev pub with_prefix : FileNames → List ℕ → FileNames
with_prefix names text = record names { prefix = text_or_none text }

abbrev pub with_suffix : FileNames → List ℕ → FileNames
with_suffix names text = record names { suffix = text_or_none text }

abbrev pub with_latest : FileNames → List ℕ → FileNames
with_latest names text = record names { latest = text_or_none text }

-- The names are those with the text, and no more texts are missing than before. Or the text, which isn't empty, found no memory, and the
-- names stay.
abbrev pub SetsText : (FileNames → List ℕ → FileNames) → List ℕ → Builder → Builder → Type 0
SetsText with text old new =
    ((builder_names new ≡ with (builder_names old) text) × (is_whole new ≡ is_whole old)) ⊎
    ((builder_names new ≡ builder_names old) × (is_whole new ≡ false) × (text ≢ []))
