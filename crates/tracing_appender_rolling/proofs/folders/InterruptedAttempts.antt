-- Attempts one after another, while they are interrupted.
use Rattle.std.proofs.Common.{◌≡◌, ℕ, suc, List, refl, ap, subst, sym, ◌∙◌, Option, Some, None, Result, Err}
use Rattle.tracing_appender_rolling.specs.declared.folders.attempts.Attempt.{Attempt}
use Rattle.tracing_appender_rolling.specs.declared.folders.attempts.Attempt.TheVariants.{Interrupted}
use Rattle.tracing_appender_rolling.specs.declared.folders.fault.FolderError.{FolderError}
use Rattle.tracing_appender_rolling.specs.declared.folders.fault.FolderError.TheVariants.{Fault}
use Rattle.tracing_appender_rolling.specs.declared.folders.fault.FolderFault.TheVariants.{Refused}
use Rattle.tracing_appender_rolling.specs.folders.Attempts.{Coming, later, AttemptGives, answered, first_answer, FirstAnswer}

-- all attempts from the start answer as so many from now on
abbrev pub TriesLeft : ℕ → ℕ → List ℕ → Option Coming → Option Coming → Type 0
TriesLeft all left bytes None now = now ≡ None
TriesLeft all left bytes (Some start) now = (rest : Coming) × (now ≡ Some rest) ×
    (first_answer all start bytes ≡ first_answer left rest bytes)

module _ (all : ℕ) (bytes : List ℕ) where
  pub all_left : (start : Option Coming) → TriesLeft all all bytes start start
  all_left None = refl
  all_left (Some start) = (start, refl, refl)

  pub one_less : (left : ℕ) (start now after : Option Coming) → TriesLeft all (suc left) bytes start now →
      AttemptGives now bytes Interrupted after → TriesLeft all left bytes start after
  one_less left None now after is gives = subst (λ (o : Option Coming). AttemptGives o bytes Interrupted after) is gives
  one_less left (Some start) now after (rest, is, same) gives =
      let gave = subst (λ (o : Option Coming). AttemptGives o bytes Interrupted after) is gives in
      (later rest, gave.1, same ∙ ap (λ a. answered a (later rest) (first_answer left (later rest) bytes)) (sym gave.0))

  pub decides : (left : ℕ) (start now after : Option Coming) (given : Attempt) (r : Result ℕ FolderError) →
      ((coming : Coming) (more : Result ℕ FolderError × Coming) → answered given coming more ≡ (r, coming)) →
      TriesLeft all (suc left) bytes start now → AttemptGives now bytes given after → FirstAnswer all start bytes r after
  decides left None now after given r last is gives = subst (λ (o : Option Coming). AttemptGives o bytes given after) is gives
  decides left (Some start) now after given r last (rest, is, same) gives =
      let gave = subst (λ (o : Option Coming). AttemptGives o bytes given after) is gives in
      let ends : first_answer all start bytes ≡ (r, later rest) =
      same ∙ ap (λ a. answered a (later rest) (first_answer left (later rest) bytes)) (sym gave.0) ∙
      last (later rest) (first_answer left (later rest) bytes) in
      (sym (ap (λ (p : Result ℕ FolderError × Coming). p.0) ends), gave.1 ∙ sym (ap (λ (p : Result ℕ FolderError × Coming). Some p.1) ends))

  pub none_left : (start now : Option Coming) → TriesLeft all 0 bytes start now → FirstAnswer all start bytes (Err (Fault Refused)) now
  none_left None now is = is
  none_left (Some start) now (rest, is, same) = (
    sym (ap (λ (p : Result ℕ FolderError × Coming). p.0) same),
    is ∙
        sym (ap (λ (p : Result ℕ FolderError × Coming). Some p.1) same),
  )
