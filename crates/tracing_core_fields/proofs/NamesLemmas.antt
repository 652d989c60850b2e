-- The names after the first, one more of them at a time.
use Rattle.std.proofs.Common.{◌≡◌, ℕ, ◌+◌, ◌<◌, ◌≤◌, List, [], ◌∷◌, ◌++◌, length, get_or, take, drop, ap, sym, ◌∙◌, arith}
use Rattle.std.specs.List.{flat_map}
use Rattle.std.proofs.lemmas.List.{drop-append-le, flat_map_more, take_more, length-take}

pub later_more : (f : List ℕ → List ℕ) (names : List (List ℕ)) (i : ℕ) → 1 ≤ i → i < length names →
    flat_map f (drop 1 (take i names)) ++ f (get_or names i []) ≡ flat_map f (drop 1 (take (i + 1) names))
later_more f names i first below =
    let some : 1 ≤ length (take i names) = omega (arith, length-take i names) in
    flat_map_more f [] (drop 1 (take i names)) (get_or names i [])
    ∙ ap (flat_map f) (sym (drop-append-le 1 (take i names) (get_or names i [] ∷ []) some))
    ∙ ap (λ l. flat_map f (drop 1 l)) (sym (take_more names i [] below))
