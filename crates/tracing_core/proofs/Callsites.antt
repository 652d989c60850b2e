-- Callsites and the indices at which they stand.
use Rattle.std.proofs.Common.{◌≡◌, ◌==◌, ℕ, zero, suc, Bool, true, false, List, [], ◌∷◌, ◌++◌, length, Option, Some, None, refl, ap, sym}
use Rattle.std.proofs.Common.{◌∙◌, subst, arith}
use Rattle.std.specs.Prelude.{if◌then◌else◌, cond, option_and_then, slice_get}
use Rattle.std.specs.Option.{option_map}
use Rattle.tracing_core.specs.InterestsAndHints.{Each, RowAsked}
use Rattle.tracing_core.specs.Commands.{is_at, callsite_with}
use Rattle.tracing_core.specs.Indices.{index_among, index_of_callsite}
use Rattle.tracing_core.specs.HubInvariant.{AreDistinct, identifiers}
use Rattle.tracing_core_fields.specs.declared.requests.callsite.Callsite.{Ghosts as SiteGhosts}
use Rattle.tracing_core_fields.specs.declared.requests.subscriber.Subscriber.{Ghosts}
use Rattle.tracing_core.specs.TableRows.{KeptCallsite, KeptSubscriber}
use Rattle.tracing_core_fields.specs.requests.Lists.{Every}
use Rattle.tracing_core.proofs.HubInvariant.{distinct_append, identifiers_append, unknown_apart}

module _ {C : Type 0} where
  at_later : (b : Bool) (r : KeptCallsite C) (callsites : List (KeptCallsite C)) (o : Option ℕ) (found : Option (KeptCallsite C)) →
      found ≡ option_and_then (λ index. slice_get callsites index) o →
      (if b then Some r else found) ≡ option_and_then (λ index. slice_get (r ∷ callsites) index) (if b then Some 0 else option_map suc o)
  at_later true r callsites o found is = refl
  at_later false r callsites None found is = is
  at_later false r callsites (Some index) found is = is

  -- what stands at the index of an identifier is the callsite with it
  pub row_at_place : (n : ℕ) (callsites : List (KeptCallsite C)) →
      callsite_with n callsites ≡ option_and_then (λ index. slice_get callsites index) (index_of_callsite n callsites)
  row_at_place n [] = refl
  row_at_place n (r ∷ callsites) = at_later (is_at n r) r callsites (index_of_callsite n callsites) (callsite_with n callsites)
      (row_at_place n callsites)

  none_later : (b : Bool) (r : KeptCallsite C) (found : Option (KeptCallsite C)) (o : Option ℕ) → (if b then Some r else found) ≡ None →
      (found ≡ None → o ≡ None) → (if b then Some 0 else option_map suc o) ≡ None
  none_later true r found o none later = absurd (cc)
  none_later false r found o none later = ap (option_map suc) (later none)

  -- an identifier that no callsite has stands nowhere
  pub unknown_place : (n : ℕ) (callsites : List (KeptCallsite C)) → callsite_with n callsites ≡ None → index_of_callsite n callsites ≡ None
  unknown_place n [] none = refl
  unknown_place n (r ∷ callsites) none = none_later (is_at n r) r (callsite_with n callsites) (index_of_callsite n callsites) none
      (unknown_place n callsites)

absent_later : (b : Bool) (o p : Option ℕ) (count : ℕ) → (if b then Some 0 else option_map suc o) ≡ None → (o ≡ None → p ≡ Some count) →
    (if b then Some 0 else option_map suc p) ≡ Some (suc count)
absent_later true o p count none more = absurd (cc)
absent_later false None p count none more = ap (option_map suc) (more refl)
absent_later false (Some index) p count none more = absurd (cc)

-- a number that stood nowhere stands last
last_place : (n : ℕ) (ns : List ℕ) → index_among n ns ≡ None → index_among n (ns ++ n ∷ []) ≡ Some (length ns)
last_place n [] none = let same : (n == n) ≡ true = grind arith in rw same refl
last_place n (m ∷ ms) none = absent_later (m == n) (index_among n ms) (index_among n (ms ++ n ∷ [])) (length ms) none (last_place n ms)

-- another number stands where it stood
other_place : (n other : ℕ) (ns : List ℕ) → (n == other) ≡ false → index_among other (ns ++ n ∷ []) ≡ index_among other ns
other_place n other [] apart = rw apart refl
other_place n other (m ∷ ms) apart = ap (λ (o : Option ℕ). if m == other then Some 0 else option_map suc o) (other_place n other ms apart)

place_by : (b : Bool) (n other : ℕ) (ns : List ℕ) → (n == other) ≡ b → index_among n ns ≡ None →
    cond b (Some (length ns)) (index_among other ns) ≡ index_among other (ns ++ n ∷ [])
place_by true n other ns here none =
    let same : n ≡ other = grind arith in
    sym (last_place n ns none) ∙ ap (λ k. index_among k (ns ++ n ∷ [])) same
place_by false n other ns apart none = sym (other_place n other ns apart)

-- with one more number at the end
pub place_more : (n other : ℕ) (ns : List ℕ) → index_among n ns ≡ None →
    cond (n == other) (Some (length ns)) (index_among other ns) ≡ index_among other (ns ++ n ∷ [])
place_more n other ns none = place_by (n == other) n other ns refl none

module _ {C : Type 0} where
  count_identifiers : (callsites : List (KeptCallsite C)) → length (identifiers callsites) ≡ length callsites
  count_identifiers [] = refl
  count_identifiers (row ∷ callsites) = ap suc (count_identifiers callsites)

  -- with the index of one more callsite, each stands where it is found
  pub taken_place : (callsites later : List (KeptCallsite C)) (row : KeptCallsite C) (n count other : ℕ) (found : Option ℕ) →
      later ≡ callsites ++ row ∷ [] → row.identifier ≡ n → count ≡ length callsites → callsite_with n callsites ≡ None →
      found ≡ index_of_callsite other callsites →
      cond (n == other) (Some count) found ≡ index_of_callsite other later
  taken_place callsites later row n count other found is same counted none before =
      ap (λ (o : Option ℕ). cond (n == other) (Some count) o) before
      ∙ ap (λ (k : ℕ). cond (n == other) (Some k) (index_of_callsite other callsites)) (counted ∙ sym (count_identifiers callsites))
      ∙ place_more n other (identifiers callsites) (unknown_place n callsites none)
      ∙ ap (λ (m : ℕ). index_among other (identifiers callsites ++ m ∷ [])) (sym same)
      ∙ sym (ap (index_among other) (ap (λ (rs : List (KeptCallsite C)). identifiers rs) is ∙ identifiers_append callsites row))

  -- with one more callsite whose identifier was unknown, identifiers still differ
  pub taken_apart : (callsites later : List (KeptCallsite C)) (row : KeptCallsite C) (n : ℕ) → later ≡ callsites ++ row ∷ [] →
      row.identifier ≡ n → callsite_with n callsites ≡ None → AreDistinct (identifiers callsites) → AreDistinct (identifiers later)
  taken_apart callsites later row n is same none apart =
      subst AreDistinct (sym (ap (λ (rs : List (KeptCallsite C)). identifiers rs) is ∙ identifiers_append callsites row))
      (distinct_append (identifiers callsites) row.identifier apart
      (unknown_apart row.identifier callsites (subst (λ (m : ℕ). callsite_with m callsites ≡ None) (sym same) none)))

  abbrev IdentifierAt : List (KeptCallsite C) → ℕ → ℕ → Type 0
  IdentifierAt callsites place n = option_map (λ (row : KeptCallsite C). row.identifier) (slice_get callsites place) ≡ Some n

  one_of : (P : ℕ → Type 0) (callsites : List (KeptCallsite C)) (place n : ℕ) → Every P (identifiers callsites) →
      IdentifierAt callsites place n → P n
  one_of P [] place n all is = let no : None ≡ Some n = is in absurd (cc)
  one_of P (r ∷ callsites) zero n all is = let same : r.identifier ≡ n = cc in subst P same all.0
  one_of P (r ∷ callsites) (suc place) n all is = one_of P callsites place n all.1 is

  -- where identifiers differ, a callsite stands where its own is found
  pub distinct_place : (callsites : List (KeptCallsite C)) (place n : ℕ) → AreDistinct (identifiers callsites) →
      option_map (λ (row : KeptCallsite C). row.identifier) (slice_get callsites place) ≡ Some n →
      index_of_callsite n callsites ≡ Some place
  distinct_place [] place n apart is = let no : None ≡ Some n = is in absurd (cc)
  distinct_place (r ∷ callsites) zero n apart is =
      let same : r.identifier ≡ n = cc in
      let here : (r.identifier == n) ≡ true = grind arith in
      rw here refl
  distinct_place (r ∷ callsites) (suc place) n apart is =
      let differs : ¬ (n ≡ r.identifier) = one_of (λ m. ¬ (m ≡ r.identifier)) callsites place n apart.0 is in
      let away : (r.identifier == n) ≡ false = grind arith in
      rw away (ap (option_map suc) (distinct_place callsites place n apart.1 is))

module _ {S C : Type 0} (g : Ghosts S) (h : SiteGhosts C) (all : Bool) where
  -- asking leaves the identifiers
  pub asked_identifiers : (before after : ℕ × List (KeptSubscriber S)) (callsites laters : List (KeptCallsite C)) →
      Each (RowAsked g h all) before callsites laters after → identifiers laters ≡ identifiers callsites
  asked_identifiers before after [] [] each = refl
  asked_identifiers before after [] (later ∷ laters) each = absurd each
  asked_identifiers before after (row ∷ callsites) [] each = absurd each
  asked_identifiers before after (row ∷ callsites) (later ∷ laters) each =
      ap (λ n. n ∷ identifiers laters) (ap (λ (r : KeptCallsite C). r.identifier) each.1.1.3) ∙
      ap (λ ns. row.identifier ∷ ns) (asked_identifiers each.0 after callsites laters each.2)
