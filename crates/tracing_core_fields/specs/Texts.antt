-- Texts that are lent or owned, as plain data.
use Rattle.std.specs.Prelude.{◌≡◌, ℕ, Bool, List, map, string_bytes}
use Rattle.std.specs.Cmp.{IsEquivalence}
use Rattle.std.specs.Cmp.Lexicographic.{pointwise, pointwise_decides, bytes_decides}
use Rattle.std.specs.Str.{bytes_eq}
use Rattle.tracing_core_fields.specs.Equality.{equivalence_by}
use Rattle.tracing_core_fields.specs.declared.texts.Texts.{Texts}
use Rattle.tracing_core_fields.specs.declared.texts.Texts.TheVariants.{Lent, Owned}

-- the texts, in order
abbrev pub texts_in : Texts → List (List ℕ)
texts_in (Lent texts) = map (λ text. text.now) texts.now
texts_in (Owned texts) = map string_bytes texts.now

-- whether they are the same texts in the same order
abbrev pub are_same_texts : Texts → Texts → Bool
are_same_texts a b = pointwise bytes_eq (texts_in a) (texts_in b)

pub are_same_texts-equivalence : IsEquivalence are_same_texts
are_same_texts-equivalence = equivalence_by texts_in are_same_texts (λ a b. pointwise_decides bytes_decides (texts_in a) (texts_in b))
