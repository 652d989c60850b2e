-- What holds of all holds of each in a list.
use Rattle.std.proofs.Common.{List, [], ◌∷◌}
use Rattle.tracing_core_fields.specs.requests.Lists.{Every}

pub every_of_all : {A : Type 0} (P : A → Type 0) → ((x : A) → P x) → (xs : List A) → Every P xs
every_of_all P each [] = tt
every_of_all P each (x ∷ xs) = (each x, every_of_all P each xs)
