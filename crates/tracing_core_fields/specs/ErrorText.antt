-- What an error's text is, with no borrowed parts.
use Rattle.std.specs.Prelude.{ℕ, List}
use Rattle.tracing_core_fields.specs.Texts.{texts_in}
use Rattle.tracing_core_fields.specs.declared.error_text.ErrorText.{ErrorText}

-- what the error prints
abbrev pub error_text : ErrorText → List ℕ
error_text error = error.text.now

-- what the error's source prints, the source of that, and so on
abbrev pub source_texts : ErrorText → List (List ℕ)
source_texts error = texts_in error.sources
