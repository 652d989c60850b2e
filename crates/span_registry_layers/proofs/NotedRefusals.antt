-- A callsite that is refused has a number and a level that were noted.
use Rattle.std.proofs.Common.{◌≡◌, ℕ, zero, suc, Bool, true, false, List, [], ◌∷◌, ◌++◌, map, true≢false, refl, ap, sym, ◌∙◌, subst, ◌<◌}
use Rattle.std.proofs.Common.{length, get_or, arith}
use Rattle.std.specs.Prelude.{◌==◌, ◌&&◌, ◌||◌, not, nat_lt, if◌then◌else◌}
use Rattle.std.specs.List.{list_any}
use Rattle.std.proofs.lemmas.Bool.{and_parts, and_from, eqb-true, eq-eqb, false≢true}
use Rattle.tracing_core_fields.specs.requests.Interests.{PlainInterest, says_never}
use Rattle.tracing_core_fields.specs.PlainMetadata.{PlainMetadata, is_same_metadata-decides}
use Rattle.span_registry_layers.specs.Refusals.{is_noted, is_refusal_of, may_refuse}
use Rattle.span_registry_layers.specs.declared.refusals.Refusals.{Refusals}
use Rattle.span_registry_layers.specs.InterestCache.{PlainCachedInterest, is_of, is_refused_by, plain_cached_interest, renewed}
use Rattle.span_registry_layers.specs.declared.cached_interest.CachedInterest.{CachedInterest}

may_by : (a b x y : Bool) → (a ≡ false → b ≡ false) → (x ≡ true → y ≡ true) → (not a && x) ≡ true → (not b && y) ≡ true
may_by true b x y lower more may = absurd (false≢true may)
may_by false b x y lower more may = ap (λ (c : Bool). not c && y) (lower refl) ∙ more may

-- a callsite that may refuse does so still, where what is noted and the least level allow it
pub may_still : (r u : Refusals) (n level : ℕ) → (nat_lt level r.least ≡ false → nat_lt level u.least ≡ false) →
    (is_noted r n ≡ true → is_noted u n ≡ true) → may_refuse r n level ≡ true → may_refuse u n level ≡ true
may_still r u n level lower more may = may_by (nat_lt level r.least) (nat_lt level u.least) (is_noted r n) (is_noted u n) lower more may

pub may_now : (r : Refusals) (n level : ℕ) → nat_lt level r.least ≡ false → is_noted r n ≡ true → may_refuse r n level ≡ true
may_now r n level lower noted = ap (λ (b : Bool). not b && is_noted r n) lower ∙ noted

-- what is not true is false
unless : (a : Bool) → (a ≡ true → false ≡ true) → a ≡ false
unless true off = sym (off refl)
unless false off = refl

pub untrue : (a : Bool) (b : Bool) → (a ≡ true → b ≡ true) → b ≡ false → a ≡ false
untrue a b so off = unless a (λ holds. sym off ∙ so holds)

both_false : (a b : Bool) → (a || b) ≡ false → (a ≡ false) × (b ≡ false)
both_false false false e = (refl, refl)
both_false false true e = absurd (true≢false e)
both_false true b e = absurd (true≢false e)

from_false : (a b : Bool) → a ≡ false → b ≡ false → (a || b) ≡ false
from_false a b x y = ap (λ t. t || b) x ∙ y

any_none : {A : Type 0} (f g : A → Bool) → ((x : A) → g x ≡ false → f x ≡ false) → (xs : List A) → list_any g xs ≡ false →
    list_any f xs ≡ false
any_none f g so [] e = refl
any_none f g so (x ∷ xs) e = let both = both_false (g x) (list_any g xs) e in
    from_false (f x) (list_any f xs) (so x both.0) (any_none f g so xs both.1)

any_mapped : {A : Type 0} (f : A → Bool) (h : A → A) → ((x : A) → f x ≡ false → f (h x) ≡ false) → (xs : List A) → list_any f xs ≡ false →
    list_any f (map h xs) ≡ false
any_mapped f h so [] e = refl
any_mapped f h so (x ∷ xs) e = let both = both_false (f x) (list_any f xs) e in
    from_false (f (h x)) (list_any f (map h xs)) (so x both.0) (any_mapped f h so xs both.1)

-- one more site that is none
pub kept_more : (n level : ℕ) (interest_cache : List CachedInterest) (site : CachedInterest) →
    list_any (is_refusal_of n level) (map plain_cached_interest interest_cache) ≡ false →
    is_refusal_of n level (plain_cached_interest site) ≡ false →
    list_any (is_refusal_of n level) (map plain_cached_interest (interest_cache ++ site ∷ [])) ≡ false
kept_more n level [] site none off = from_false (is_refusal_of n level (plain_cached_interest site)) false off refl
kept_more n level (first ∷ interest_cache) site none off =
    let both = both_false (is_refusal_of n level (plain_cached_interest first))
    (list_any (is_refusal_of n level) (map plain_cached_interest interest_cache)) none in
    from_false (is_refusal_of n level (plain_cached_interest first))
    (list_any (is_refusal_of n level) (map plain_cached_interest (interest_cache ++ site ∷ []))) both.0
    (kept_more n level interest_cache site both.1 off)

-- a site that refuses a callsite does so by its number and level
site_refuses : (m : PlainMetadata) (site : PlainCachedInterest) → is_refused_by m site ≡ true → is_refusal_of m.callsite m.level site ≡ true
site_refuses m site e =
    let parts = and_parts (says_never site.interest) (is_of m site) e in
    let same : site.metadata ≡ m = (is_same_metadata-decides site.metadata m).0 parts.1 in
    let number : (site.metadata.callsite == m.callsite) ≡ true = eq-eqb site.metadata.callsite m.callsite
    (ap (λ (x : PlainMetadata). x.callsite) same) in
    let level : (site.metadata.level == m.level) ≡ true = eq-eqb site.metadata.level m.level (ap (λ (x : PlainMetadata). x.level) same) in
    and_from (says_never site.interest) (site.metadata.callsite == m.callsite && site.metadata.level == m.level) parts.0
    (and_from (site.metadata.callsite == m.callsite) (site.metadata.level == m.level) number level)

pub nobody_refuses : (m : PlainMetadata) (interest_cache : List PlainCachedInterest) →
    list_any (is_refusal_of m.callsite m.level) interest_cache ≡ false → list_any (is_refused_by m) interest_cache ≡ false
nobody_refuses m interest_cache = any_none (is_refused_by m) (is_refusal_of m.callsite m.level)
    (λ site. untrue (is_refused_by m site) (is_refusal_of m.callsite m.level site) (site_refuses m site)) interest_cache

-- an interest at a number and a level that are noted where it is a refusal is none of those that aren't noted
pub apart : (k : PlainInterest) (may : ℕ → ℕ → Bool) (c l n level : ℕ) → (says_never k ≡ true → may c l ≡ true) → may n level ≡ false →
    (says_never k && (c == n && l == level)) ≡ false
apart k may c l n level noted off = unless (says_never k && (c == n && l == level)) (λ e.
    let parts = and_parts (says_never k) (c == n && l == level) e in
    let both = and_parts (c == n) (l == level) parts.1 in
    sym off ∙ ap (λ (x : ℕ). may x level) (sym (eqb-true c n both.0)) ∙ ap (may c) (sym (eqb-true l level both.1)) ∙ noted parts.0)

renewed_by : (b : Bool) (m : PlainMetadata) (k : PlainInterest) (n level : ℕ) (site : PlainCachedInterest) → is_of m site ≡ b →
    (says_never k && (m.callsite == n && m.level == level)) ≡ false → is_refusal_of n level site ≡ false →
    is_refusal_of n level (renewed m k site) ≡ false
renewed_by true m k n level site is off old =
    let same : site.metadata ≡ m = (is_same_metadata-decides site.metadata m).0 is in
    subst (λ (b : Bool). is_refusal_of n level (if b then record site { interest = k } else site) ≡ false) (sym is)
    (ap (λ (x : PlainMetadata). says_never k && (x.callsite == n && x.level == level)) same ∙ off)
renewed_by false m k n level site is off old =
    subst (λ (b : Bool). is_refusal_of n level (if b then record site { interest = k } else site) ≡ false) (sym is) old

pub none_renewed : (m : PlainMetadata) (k : PlainInterest) (n level : ℕ) (interest_cache : List PlainCachedInterest) →
    (says_never k && (m.callsite == n && m.level == level)) ≡ false → list_any (is_refusal_of n level) interest_cache ≡ false →
    list_any (is_refusal_of n level) (map (renewed m k) interest_cache) ≡ false
none_renewed m k n level interest_cache off e = any_mapped (is_refusal_of n level) (renewed m k)
    (λ site. renewed_by (is_of m site) m k n level site refl off) interest_cache e

or_later : (a b : Bool) → b ≡ true → (a || b) ≡ true
or_later true b e = refl
or_later false b e = e

or_first : (a b : Bool) → a ≡ true → (a || b) ≡ true
or_first a b e = ap (λ t. t || b) e

-- a site at a place that refuses is one of all
pub refused_at : (m : PlainMetadata) (interest_cache : List CachedInterest) (i : ℕ) (site : CachedInterest) → i < length interest_cache →
    site ≡ get_or interest_cache i site → is_refused_by m (plain_cached_interest site) ≡ true →
    list_any (is_refused_by m) (map plain_cached_interest interest_cache) ≡ true
refused_at m [] i site below is e = absurd (omega (arith, below))
refused_at m (other ∷ interest_cache) zero site below is e =
    or_first _ _ (subst (λ (s : CachedInterest). is_refused_by m (plain_cached_interest s) ≡ true) is e)
refused_at m (other ∷ interest_cache) (suc i) site below is e =
    or_later _ _ (refused_at m interest_cache i site (omega (arith, below)) is e)
