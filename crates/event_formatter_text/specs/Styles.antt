-- Pieces of text in styles.
use Rattle.std.specs.Prelude.{ℕ, List, ◌∷◌, ◌++◌, if◌then◌else◌, codes}
use Rattle.event_formatter_text.specs.declared.settings.Settings.{Settings}

-- a text between the code that begins a style and the one that ends it
abbrev pub between : List ℕ → List ℕ → List ℕ
between start text = start ++ text ++ 27 ∷ codes "[0m"

-- the same where styles are on
unfoldable pub styled : Settings → List ℕ → List ℕ → List ℕ
styled settings start text = if settings.styles then between start text else text

abbrev pub dimmed : Settings → List ℕ → List ℕ
dimmed settings text = styled settings (27 ∷ codes "[2m") text

abbrev pub italic : Settings → List ℕ → List ℕ
italic settings text = styled settings (27 ∷ codes "[3m") text

abbrev pub bold : Settings → List ℕ → List ℕ
bold settings text = styled settings (27 ∷ codes "[1m") text
