-- A line in one span.
use Rattle.std.proofs.Common.{◌≡◌, List, [], ◌∷◌, length, refl}
use Rattle.event_formatter_lines.specs.Shown.{PlainShown, span_at}

pub alone : (spans : List PlainShown) → length spans ≡ 1 → span_at spans 0 ∷ [] ≡ spans
alone [] one = absurd (cc)
alone (span ∷ []) one = refl
alone (span ∷ other ∷ spans) one = absurd (cc)
