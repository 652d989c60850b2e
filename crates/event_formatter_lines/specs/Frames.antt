-- A text between two others.
use Rattle.std.specs.Prelude.{ℕ, List, ◌++◌, Option}
use Rattle.std.specs.Option.{option_map}

-- a text between what stands before it and behind it, where there is one
abbrev pub framed_text : List ℕ → Option (List ℕ) → List ℕ → Option (List ℕ)
framed_text front text back = option_map (λ inner. front ++ (inner ++ back)) text
