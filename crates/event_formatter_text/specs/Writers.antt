-- Writers.
use Rattle.std.specs.Prelude.{◌≡◌, ℕ, List, false, string_bytes}
use Rattle.event_formatter_text.specs.declared.settings.Settings.{Settings}
use Rattle.event_formatter_text.specs.declared.writer.Writer.{Writer}

-- what was written
abbrev pub written : Writer → List ℕ
written writer = string_bytes writer.out.now

-- how it writes
abbrev pub settings_of : Writer → Settings
settings_of writer = writer.settings

-- the same text is lent to both, and they write in the same way
abbrev pub IsSameWriter : Writer → Writer → Type 0
IsSameWriter a b = (b.out.ghost_name ≡ a.out.ghost_name) × (b.settings ≡ a.settings)

-- the same settings with no styles
abbrev pub without_styles : Settings → Settings
without_styles settings = record { styles = false; sanitizes = settings.sanitizes }

-- the same writer without styles
abbrev pub plainly : Writer → Writer
plainly writer = record { out = writer.out; settings = without_styles writer.settings }
