-- A visit by a visitor that writes a letter for each value.
use Rattle.std.proofs.Common.{◌≡◌, ℕ, List, [], ◌∷◌, ◌++◌, map, Result, Ok, Err, OnOk, sym, ap, ◌∙◌, append_assoc}
use Rattle.std.proofs.lemmas.List.{append-nil}
use Rattle.tracing_core.specs.PlainField.{PlainField}
use Rattle.tracing_core.specs.PlainValue.{PlainValue}
use Rattle.tracing_core.specs.Visits.{Visits, all_taken, refused, taken}
use Rattle.uses.specs.Letters.{AddsLetter}

ok_again : {E : Type 0} {P Q : Type 0} (r : Result (Unit {0}) E) → OnOk r P → (P → Q) → OnOk r Q
ok_again (Ok x) p f = f p
ok_again (Err e) p f = tt

module _ {V E : Type 0} (letters : V → List ℕ) (letter : PlainValue → ℕ) (callsite : ℕ) (names : List (List ℕ)) where
  -- all that was handed over has its letter
  pub written : {entries : List (ℕ × PlainValue)} {before after : V} {answer : Result (Unit {0}) E} →
      Visits (λ (b : V) (field : PlainField) (value : PlainValue) (r : Result (Unit {0}) E) (a : V). AddsLetter (letters b) (letter value) r
      (letters a)) callsite names entries before answer after →
      OnOk answer (letters after ≡ letters before ++ map (λ (e : ℕ × PlainValue). letter e.1) entries)
  written {before = before} all_taken = sym (append-nil (letters before))
  written (refused field is t) = tt
  written {before = before} {after = after} {answer = answer} (taken {value = value} {entries = es} {next = next} field is t rest) =
      ok_again answer (written rest)
      (λ (more : letters after ≡ letters next ++ map (λ (e : ℕ × PlainValue). letter e.1) es).
      more ∙ ap (λ (bs : List ℕ). bs ++ map (λ (e : ℕ × PlainValue). letter e.1) es) t ∙ append_assoc (letters before) (letter value ∷ [])
      (map (λ (e : ℕ × PlainValue). letter e.1) es))
