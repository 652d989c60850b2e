-- Numbers in a fixed count of digits.
use Rattle.std.specs.Prelude.{ℕ, ◌+◌, ◌/◌, ◌%◌, List, [], ◌∷◌, ◌++◌}
use Rattle.tracing_core_moments.specs.Calendar.{two_digits}

abbrev pub digit : ℕ → List ℕ
digit n = (48 + n) ∷ []

abbrev pub three_digits : ℕ → List ℕ
three_digits n = digit (n / 100) ++ two_digits (n % 100)

abbrev pub six_digits : ℕ → List ℕ
six_digits n = three_digits (n / 1000) ++ three_digits (n % 1000)

unfoldable pub nine_digits : ℕ → List ℕ
nine_digits n = three_digits (n / 1000000) ++ six_digits (n % 1000000)
