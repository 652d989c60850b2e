-- What closures over metadata and a context may answer as filters.
use Rattle.std.specs.Prelude.{◌≡◌, ◌<◌, ℕ, Bool, true, false, nat_lt, if◌then◌else◌, Option, Some, None, refl}
use Rattle.std.specs.Borrow.{Bor}
use Rattle.std.proofs.Common.{subst, sym, ◌∙◌, arith}
use Rattle.std.proofs.lemmas.Bool.Decides.{nat_tests}
use Rattle.tracing_core_fields.specs.declared.requests.interest.InterestInner.TheVariants.{Never, Sometimes}
use Rattle.tracing_core_fields.specs.requests.Interests.{PlainInterest}
use Rattle.tracing_core_fields.specs.Metadata.{plain_metadata}
use Rattle.tracing_core_fields.specs.PlainMetadata.{PlainMetadata}
use Rattle.tracing_core_fields.specs.requests.Steady.{HintFits, InterestFits}
use Rattle.tracing_core_fields.specs.declared.metadata.Metadata.{Metadata}
use Rattle.span_registry_layers_layers.specs.Honesty.{Fair}
use Rattle.span_registry_layers_layers.specs.FilterViews.{View, view}
use Rattle.span_registry_layers_layers.specs.declared.context.Context.{Context}

-- the answer is determined by what the metadata says and the context shows
abbrev pub IsDeterminedIn : (Bor Metadata → Bor Context → Bool → Type 0) → Type 0
IsDeterminedIn P = (x y : Bor Metadata) (c d : Bor Context) (a b : Bool) → plain_metadata x.now ≡ plain_metadata y.now →
    view c.now ≡ view d.now → P x c a → P y d b → a ≡ b

-- nothing above the level passes
abbrev pub RefusesAboveIn : ℕ → (Bor Metadata → Bor Context → Bool → Type 0) → Type 0
RefusesAboveIn top P = (x : Bor Metadata) (c : Bor Context) (b : Bool) → P x c b → top < (plain_metadata x.now).level → b ≡ false

abbrev pub RefusesAboveHintIn : Option ℕ → (Bor Metadata → Bor Context → Bool → Type 0) → Type 0
RefusesAboveHintIn None P = Unit {0}
RefusesAboveHintIn (Some top) P = RefusesAboveIn top P

-- what the closure answers of metadata and a context that are the same
abbrev pub AnswersIn : (Bor Metadata → Bor Context → Bool → Type 0) → PlainMetadata → View → Bool → Type 0
AnswersIn P m v b = (x : Bor Metadata) × (c : Bor Context) × (plain_metadata x.now ≡ m) × (view c.now ≡ v) × P x c b

-- without a closure for callsites, never above the hint, and else sometimes
abbrev pub hinted_interest : Option ℕ → ℕ → PlainInterest
hinted_interest None level = Sometimes
hinted_interest (Some top) level = if nat_lt top level then Never else Sometimes

-- what that closure says of metadata that is the same
abbrev pub SaysIn : {G : Type 0} → (G → Bor Metadata → PlainInterest → Type 0) → Option G → Option ℕ → PlainMetadata → PlainInterest →
    Type 0
SaysIn post None hint m k = k ≡ hinted_interest hint m.level
SaysIn post (Some g) hint m k = (x : Bor Metadata) × (plain_metadata x.now ≡ m) × post g x k

-- what that closure says fits what the filter answers, whatever the context
abbrev pub CallsitesFit : {G : Type 0} → (Bor Metadata → Bor Context → Bool → Type 0) → (G → Bor Metadata → PlainInterest → Type 0) →
    Option G → Type 0
CallsitesFit P post None = Unit {0}
CallsitesFit P post (Some g) = (x y : Bor Metadata) (c : Bor Context) (b : Bool) (k : PlainInterest) →
    plain_metadata x.now ≡ plain_metadata y.now → P x c b → post g y k → InterestFits k b

above : (hint : Option ℕ) (P : Bor Metadata → Bor Context → Bool → Type 0) → RefusesAboveHintIn hint P →
    (x : Bor Metadata) (c : Bor Context) (m : PlainMetadata) (b : Bool) → plain_metadata x.now ≡ m → P x c b → HintFits hint m.level b
above None P r x c m b e p = tt
above (Some top) P r x c m b e p = subst (λ (n : PlainMetadata). top < n.level → b ≡ false) e (r x c b p)

hinted_if : (is_above b : Bool) → (is_above ≡ true → b ≡ false) → InterestFits (if is_above then Never else Sometimes) b
hinted_if true b refuses = refuses refl
hinted_if false b refuses = tt

hinted_fits : (hint : Option ℕ) (level : ℕ) (b : Bool) → HintFits hint level b → InterestFits (hinted_interest hint level) b
hinted_fits None level b fits = tt
hinted_fits (Some top) level b fits = hinted_if (nat_lt top level) b (λ is. fits (grind (arith, nat_tests, is)))

says_fit : {G : Type 0} (P : Bor Metadata → Bor Context → Bool → Type 0) (post : G → Bor Metadata → PlainInterest → Type 0)
    (callsite : Option G) (hint : Option ℕ) → CallsitesFit P post callsite → RefusesAboveHintIn hint P →
    (m : PlainMetadata) (v : View) (b : Bool) (k : PlainInterest) → AnswersIn P m v b → SaysIn post callsite hint m k → InterestFits k b
says_fit P post None hint fits r m v b k a s = subst (λ j. InterestFits j b) (sym s)
    (hinted_fits hint m.level b (above hint P r a.0 a.1 m b a.2 a.4))
says_fit P post (Some g) hint fits r m v b k a s = fits a.0 s.0 a.1 b k (a.2 ∙ sym s.1) a.4 s.2

pub dynamic_fair : {G : Type 0} (P : Bor Metadata → Bor Context → Bool → Type 0) (post : G → Bor Metadata → PlainInterest → Type 0)
    (callsite : Option G) (hint : Option ℕ) → CallsitesFit P post callsite → RefusesAboveHintIn hint P →
    Fair (AnswersIn P) (SaysIn post callsite hint) hint
dynamic_fair P post callsite hint fits r = record {
  interest = says_fit P post callsite hint fits r;
  below = λ m v b a. above hint P r a.0 a.1 m b a.2 a.4;
}
