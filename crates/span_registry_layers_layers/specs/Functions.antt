-- What closures may answer as filters.
use Rattle.std.specs.Prelude.{◌≡◌, ◌<◌, ℕ, Bool, true, false, Option, Some, None}
use Rattle.std.specs.Borrow.{Bor}
use Rattle.std.proofs.Common.{subst, sym, ◌∙◌}
use Rattle.tracing_core_fields.specs.requests.Interests.{PlainInterest}
use Rattle.tracing_core_fields.specs.Metadata.{plain_metadata}
use Rattle.tracing_core_fields.specs.PlainMetadata.{PlainMetadata}
use Rattle.tracing_core_fields.specs.requests.Steady.{HintFits, InterestFits}
use Rattle.tracing_core_fields.specs.declared.metadata.Metadata.{Metadata}
use Rattle.span_registry_layers_layers.specs.Combined.{kept_by}
use Rattle.span_registry_layers_layers.specs.Honesty.{Fair}
use Rattle.span_registry_layers_layers.specs.FilterViews.{View}

-- the answer is determined by what the metadata says
abbrev pub IsDetermined : (Bor Metadata → Bool → Type 0) → Type 0
IsDetermined P = (x y : Bor Metadata) (b c : Bool) → plain_metadata x.now ≡ plain_metadata y.now → P x b → P y c → b ≡ c

-- nothing above the level passes
abbrev pub RefusesAbove : ℕ → (Bor Metadata → Bool → Type 0) → Type 0
RefusesAbove top P = (x : Bor Metadata) (b : Bool) → P x b → top < (plain_metadata x.now).level → b ≡ false

abbrev pub RefusesAboveHint : Option ℕ → (Bor Metadata → Bool → Type 0) → Type 0
RefusesAboveHint None P = Unit {0}
RefusesAboveHint (Some top) P = RefusesAbove top P

-- what the closure answers of metadata that is the same
abbrev pub AnswersBy : (Bor Metadata → Bool → Type 0) → PlainMetadata → View → Bool → Type 0
AnswersBy P m v b = (x : Bor Metadata) × (plain_metadata x.now ≡ m) × P x b

-- always what it passes, never what it refuses
abbrev pub SaysBy : (Bor Metadata → Bool → Type 0) → PlainMetadata → PlainInterest → Type 0
SaysBy P m k = (x : Bor Metadata) × (b : Bool) × (plain_metadata x.now ≡ m) × P x b × (k ≡ kept_by b)

kept_fits : (b c : Bool) → b ≡ c → InterestFits (kept_by c) b
kept_fits b true e = e
kept_fits b false e = e

above : (hint : Option ℕ) (P : Bor Metadata → Bool → Type 0) → RefusesAboveHint hint P → (x : Bor Metadata) (m : PlainMetadata) (b : Bool) →
    plain_metadata x.now ≡ m → P x b → HintFits hint m.level b
above None P r x m b e p = tt
above (Some top) P r x m b e p = subst (λ (n : PlainMetadata). top < n.level → b ≡ false) e (r x b p)

pub function_fair : (P : Bor Metadata → Bool → Type 0) (hint : Option ℕ) → IsDetermined P → RefusesAboveHint hint P →
    Fair (AnswersBy P) (SaysBy P) hint
function_fair P hint d r = record {
  interest = λ m v b k a s. subst (λ j. InterestFits j b) (sym s.4) (kept_fits b s.1 (d a.0 s.0 b s.1 (a.1 ∙ sym s.2) a.2 s.3));
  below = λ m v b a. above hint P r a.0 m b a.1 a.2;
}
