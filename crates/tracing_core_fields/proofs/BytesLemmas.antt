-- The text of bytes, from its first byte on.
use Rattle.std.proofs.Common.{◌≡◌, ℕ, ◌-◌, ◌≤◌, List, [], ◌∷◌, ◌++◌, length, get_or, take, drop, ap, arith}
use Rattle.std.specs.List.{flat_map}
use Rattle.std.proofs.lemmas.List.{take_all}
use Rattle.tracing_core_fields.specs.PlainDebug.{bytes_text, hex_pair}

pub bytes_text-split : (bytes : List ℕ) → 1 ≤ length bytes →
    (91 ∷ []) ++ (hex_pair (get_or bytes 0 0) ++ (flat_map (λ byte. 32 ∷ hex_pair byte) (take (length bytes - 1) (drop 1 bytes)) ++
    (93 ∷ []))) ≡ bytes_text bytes
bytes_text-split [] some = absurd (omega (arith, some))
bytes_text-split (b ∷ bs) some =
    ap (λ later. 91 ∷ (hex_pair b ++ (flat_map (λ byte. 32 ∷ hex_pair byte) later ++ (93 ∷ []))))
    (take_all (length (b ∷ bs) - 1) bs (omega arith))
