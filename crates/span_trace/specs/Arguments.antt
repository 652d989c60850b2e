-- What the arguments ask for.
use Rattle.std.specs.Prelude.{ℕ, List, [], ◌∷◌, Bool, false, codes}
use Rattle.std.specs.Str.{bytes_eq}

-- whether they are the one word replay
abbrev pub asks_replay : List (List ℕ) → Bool
asks_replay [] = false
asks_replay (word ∷ []) = bytes_eq word (codes "replay")
asks_replay (word ∷ other ∷ more) = false
