-- Asking leaves a steady subscriber consistent, and what is kept covers its answer.
use Rattle.std.proofs.Common.{◌≡◌, ℕ, ◌+◌, ◌≤◌, Bool, true, false, List, [], ◌∷◌, ◌++◌, length, Option, Some, None, refl, ap, sym, ◌∙◌}
use Rattle.std.proofs.Common.{subst, arith, ◌⊎◌, inl, inr}
use Rattle.std.specs.Prelude.{if◌then◌else◌, slice_get}
use Rattle.tracing_core_fields.specs.PlainMetadata.{PlainMetadata}
use Rattle.tracing_core.specs.InterestsAndHints.{Each, Gives, Joins, Keeps, heard}
use Rattle.tracing_core_fields.specs.requests.Interests.{joined, settled, PlainInterest, common, Covers}
use Rattle.tracing_core.specs.Commands.{callsite_with, is_at}
use Rattle.tracing_core.specs.Handles.{subscriber_with, is_of}
use Rattle.tracing_core_fields.specs.requests.Lists.{Every}
use Rattle.tracing_core.specs.ValidCaches.{AnswerRight, AnswersRight, CallsiteRight}
use Rattle.tracing_core_fields.specs.requests.Steady.{SameWord}
use Rattle.tracing_core_fields.specs.declared.requests.callsite.Callsite.{Ghosts as SiteGhosts}
use Rattle.tracing_core.specs.TableRows.{KeptCallsite, KeptSubscriber}
use Rattle.tracing_core_fields.specs.declared.requests.interest.InterestInner.TheVariants.{Never, Sometimes, Always}
use Rattle.tracing_core_fields.specs.declared.requests.subscriber.Subscriber.{Ghosts}

pub covers_self : (j : PlainInterest) → Covers j j
covers_self Never = refl
covers_self Sometimes = tt
covers_self Always = refl

pub covers_left : (f j k : PlainInterest) → Covers f (common j k) → Covers f j
covers_left Never Never k h = refl
covers_left Never Sometimes k h = absurd (cc)
covers_left Never Always Never h = absurd (cc)
covers_left Never Always Sometimes h = absurd (cc)
covers_left Never Always Always h = absurd (cc)
covers_left Sometimes j k h = tt
covers_left Always Never Never h = absurd (cc)
covers_left Always Never Sometimes h = absurd (cc)
covers_left Always Never Always h = absurd (cc)
covers_left Always Sometimes k h = absurd (cc)
covers_left Always Always k h = refl

common_swap : (j k : PlainInterest) → common j k ≡ common k j
common_swap Never Never = refl
common_swap Never Sometimes = refl
common_swap Never Always = refl
common_swap Sometimes Never = refl
common_swap Sometimes Sometimes = refl
common_swap Sometimes Always = refl
common_swap Always Never = refl
common_swap Always Sometimes = refl
common_swap Always Always = refl

pub covers_right : (f j k : PlainInterest) → Covers f (common j k) → Covers f k
covers_right f j k h = covers_left f k j (subst (Covers f) (common_swap j k) h)

pub every_map : {A : Type 0} (P Q : A → Type 0) (xs : List A) → ((x : A) → P x → Q x) → Every P xs → Every Q xs
every_map P Q [] f all = tt
every_map P Q (x ∷ xs) f all = (f x all.0, every_map P Q xs f all.1)

either : {A : Type 0} (b : Bool) (x : A) (o : Option A) (y : A) → (if b then Some x else o) ≡ Some y → (x ≡ y) ⊎ (o ≡ Some y)
either true x o y e = inl (cc)
either false x o y e = inr e

pub row_every : {C : Type 0} (P : KeptCallsite C → Type 0) (identifier : ℕ) (callsites : List (KeptCallsite C)) (row : KeptCallsite C) →
    callsite_with identifier callsites ≡ Some row → Every P callsites → P row
row_every P identifier [] row e all = absurd (cc)
row_every P identifier (r ∷ callsites) row e all = elim (either (is_at identifier r) r (callsite_with identifier callsites) row e) [
  | inl h ↦ subst P h all.0
  | inr h ↦ row_every P identifier callsites row h all.1
]

module _ {S : Type 0} where
  pub entry_head : (n : ℕ) (x : KeptSubscriber S) (xs : List (KeptSubscriber S)) → is_of n x ≡ true → subscriber_with n (x ∷ xs) ≡ Some x
  entry_head n x xs e = rw e refl

  pub entry_tail : (n : ℕ) (x : KeptSubscriber S) (xs : List (KeptSubscriber S)) → is_of n x ≡ false →
      subscriber_with n (x ∷ xs) ≡ subscriber_with n xs
  entry_tail n x xs e = rw e refl

module _ {S : Type 0} (g : Ghosts S) where
  covers_start : (all : Bool) (m : PlainMetadata) (i : ℕ) (es fs : List (KeptSubscriber S)) (j : PlainInterest)
      (last : Option PlainInterest) → Each (Joins g all m i) (Some j) es fs last → Covers (settled last) j
  covers_start all m i [] [] j last e = subst (λ o. Covers (settled o) j) (sym e) (covers_self j)
  covers_start all m i [] (y ∷ ys) j last e = absurd e
  covers_start all m i (x ∷ xs) [] j last e = absurd e
  covers_start all m i (x ∷ xs) (y ∷ ys) j last e =
      covers_left (settled last) j e.1.0
      (covers_start all m i xs ys (common j e.1.0) last (subst (λ o. Each (Joins g all m i) o xs ys last) e.1.2 e.2))

  covers_joined : (all : Bool) (m : PlainMetadata) (i : ℕ) (es fs : List (KeptSubscriber S)) (o : Option PlainInterest) (k : PlainInterest)
      (last : Option PlainInterest) → Each (Joins g all m i) (joined o k) es fs last → Covers (settled last) k
  covers_joined all m i es fs None k last e = covers_start all m i es fs k last e
  covers_joined all m i es fs (Some j) k last e = covers_right (settled last) j k (covers_start all m i es fs (common j k) last e)

  -- whoever gives an answer changes itself and its kept answers
  pub gives_heard : (all : Bool) (m : PlainMetadata) (i : ℕ) (k : PlainInterest) (e f : KeptSubscriber S) → Gives g all m i k e f →
      f ≡ heard f.subscriber f.interests e
  gives_heard true m i k e f a = a.2
  gives_heard false m i k e f (inl a) = a.2
  gives_heard false m i k e f (inr a) = subst (λ (d : KeptSubscriber S). d ≡ heard d.subscriber d.interests e) (sym a.1) refl

  -- the answer that it gives is the one that is kept, if one is
  pub gives_keeps : (all : Bool) (m : PlainMetadata) (i : ℕ) (k : PlainInterest) (e f : KeptSubscriber S) → Gives g all m i k e f →
      Keeps i k e.interests f.interests
  gives_keeps true m i k e f a = a.3
  gives_keeps false m i k e f (inl a) = a.3
  gives_keeps false m i k e f (inr a) = subst (λ (d : KeptSubscriber S). Keeps i k e.interests d.interests) (sym a.1)
      (λ other apart. refl, inl a.2)

  -- it gave an answer, and what is kept of the callsite covers it
  abbrev pub GaveOne : Bool → PlainMetadata → ℕ → ℕ → KeptSubscriber S → List (KeptSubscriber S) → PlainInterest → Type 0
  GaveOne all m i n e fs k = (f : KeptSubscriber S) × (own : PlainInterest) × (subscriber_with n fs ≡ Some f) × Gives g all m i own e f ×
      Covers k own

  gave_head : (b all : Bool) (m : PlainMetadata) (i n : ℕ) (o mid last : Option PlainInterest) (x y e : KeptSubscriber S)
      (xs ys : List (KeptSubscriber S)) → is_of n x ≡ b → Joins g all m i o x y mid → Each (Joins g all m i) mid xs ys last →
      (if b then Some x else subscriber_with n xs) ≡ Some e → (subscriber_with n xs ≡ Some e → GaveOne all m i n e ys (settled last)) →
      GaveOne all m i n e (y ∷ ys) (settled last)
  gave_head true all m i n o mid last x y e xs ys is r each there later =
      let same : x ≡ e = cc in
      let here : is_of n y ≡ true = ap (is_of n) (gives_heard all m i r.0 x y r.1) ∙ is in (
        y,
        r.0,
        entry_head n y ys here,
        subst (λ (d : KeptSubscriber S). Gives g all m i r.0 d y) same r.1,
        covers_joined all m i xs ys o r.0 last (subst (λ j. Each (Joins g all m i) j xs ys last) r.2 each),
      )
  gave_head false all m i n o mid last x y e xs ys is r each there later =
      let w = later there in
      let away : is_of n y ≡ false = ap (is_of n) (gives_heard all m i r.0 x y r.1) ∙ is in
      (w.0, w.1, entry_tail n y ys away ∙ w.2, w.3, w.4)

  pub gave_one : (all : Bool) (m : PlainMetadata) (i n : ℕ) (o last : Option PlainInterest) (es fs : List (KeptSubscriber S))
      (e : KeptSubscriber S) → Each (Joins g all m i) o es fs last → subscriber_with n es ≡ Some e → GaveOne all m i n e fs (settled last)
  gave_one all m i n o last [] fs e each there = absurd (cc)
  gave_one all m i n o last (x ∷ xs) [] e each there = absurd each
  gave_one all m i n o last (x ∷ xs) (y ∷ ys) e each there =
      gave_head (is_of n x) all m i n o each.0 last x y e xs ys refl each.1 each.2 there
      (λ w. gave_one all m i n each.0 last xs ys e each.2 w)

  pub same_word : (x : S) → SameWord (g.says x) (g.says x) (g.hint x) (g.hint x)
  same_word x = record { onward = λ m k s. s; back = λ m k s. s; same_hint = refl }

  pub both_words : (x y z : S) → SameWord (g.says x) (g.says y) (g.hint x) (g.hint y) →
      SameWord (g.says y) (g.says z) (g.hint y) (g.hint z) → SameWord (g.says x) (g.says z) (g.hint x) (g.hint z)
  both_words x y z a b = record {
    onward = λ m k s. b.onward m k (a.onward m k s);
    back = λ m k s. a.back m k (b.back m k s);
    same_hint =
        b.same_hint ∙ a.same_hint;
  }

  module _ {C : Type 0} (h : SiteGhosts C) where
    pub right_onward : (x y : S) (callsites : List (KeptCallsite C)) → SameWord (g.says x) (g.says y) (g.hint x) (g.hint y) →
        Every (CallsiteRight g h x) callsites → Every (CallsiteRight g h y) callsites
    right_onward x y callsites word all = every_map (CallsiteRight g h x) (CallsiteRight g h y) callsites
        (λ row r. (r.0, word.onward (h.metadata_of row.callsite) r.0 r.1, r.2)) all

    -- what is kept from an index on stays right
    pub answers_onward : (i : ℕ) (x y : S) (before after : List PlainInterest) (callsites : List (KeptCallsite C)) →
        SameWord (g.says x) (g.says y) (g.hint x) (g.hint y) → ((j : ℕ) → i ≤ j → slice_get after j ≡ slice_get before j) →
        AnswersRight g h i x before callsites → AnswersRight g h i y after callsites
    answers_onward i x y before after [] word same right = tt
    answers_onward i x y before after (row ∷ callsites) word same right = (
      λ k found.
          let own = right.0 k (sym (same i (omega arith)) ∙ found) in
          (word.onward (h.metadata_of row.callsite) k own.0, own.1),
      answers_onward (i + 1) x y before after callsites word (λ j later. same j (omega arith)) right.1,
    )

    pub kept_own : (o : Option PlainInterest) (own k : PlainInterest) → (o ≡ Some own) ⊎ (o ≡ None) → o ≡ Some k → own ≡ k
    kept_own o own k (inl is) found = let both : Some own ≡ Some k = sym is ∙ found in cc
    kept_own o own k (inr none) found = let both : None ≡ Some k = sym none ∙ found in absurd (cc)

    -- with the answer of one more callsite
    pub answers_append : (i n : ℕ) (x y : S) (before after : List PlainInterest) (callsites : List (KeptCallsite C)) (row : KeptCallsite C)
        (own : PlainInterest) → n ≡ i + length callsites → SameWord (g.says x) (g.says y) (g.hint x) (g.hint y) →
        Keeps n own before after → AnswersRight g h i x before callsites → AnswerRight g h y row own →
        AnswersRight g h i y after (callsites ++ row ∷ [])
    answers_append i n x y before after [] row own is word keeps right new =
        let here : i ≡ n = omega arith in (
          λ k found. subst (AnswerRight g h y row)
              (kept_own (slice_get after n) own k keeps.1 (subst (λ j. slice_get after j ≡ Some k) here found)) new,
          tt,
        )
    answers_append i n x y before after (r ∷ callsites) row own is word keeps right new = (
      λ k found.
          let kept = right.0 k (sym (keeps.0 i (λ (same : i ≡ n). omega arith)) ∙ found) in
          (word.onward (h.metadata_of r.callsite) k kept.0, kept.1),
      answers_append (i + 1) n x y before after callsites row own (omega arith) word keeps right.1 new,
    )
