-- What is known without asking is what asking gives.
use Rattle.std.proofs.Common.{◌≡◌, ℕ, zero, suc, ◌≤◌, Bool, true, false, nat_le, List, [], ◌∷◌, Option, Some, None, refl, ap, sym, ◌∙◌}
use Rattle.std.proofs.Common.{subst, arith}
use Rattle.std.specs.Prelude.{if◌then◌else◌, slice_get}
use Rattle.tracing_core_fields.specs.PlainMetadata.{PlainMetadata}
use Rattle.tracing_core.specs.InterestsAndHints.{level_of}
use Rattle.tracing_core.specs.Commands.{AskGives, AskGivesAt, AnswerGives, GateGives, GateGivesAt, known, known_by, reached, callsite_with}
use Rattle.tracing_core.specs.Handles.{subscriber_with}
use Rattle.tracing_core_fields.specs.requests.Interests.{PlainInterest, Covers}
use Rattle.tracing_core_fields.specs.requests.Lists.{Every}
use Rattle.tracing_core.specs.ValidCaches.{IsTrueCallsite, CallsiteRight, HasValidCache}
use Rattle.tracing_core_fields.specs.requests.Steady.{InterestFits, HintFits}
use Rattle.tracing_core.specs.Table.{Table}
use Rattle.tracing_core_moments.specs.declared.at.At.{At}
use Rattle.tracing_core_fields.specs.declared.requests.callsite.Callsite.{Ghosts as SiteGhosts}
use Rattle.tracing_core.specs.TableRows.{KeptCallsite, KeptSubscriber}
use Rattle.tracing_core_fields.specs.declared.requests.interest.InterestInner.TheVariants.{Never, Sometimes, Always}
use Rattle.tracing_core_fields.specs.declared.requests.subscriber.Subscriber.{Ghosts}
use Rattle.tracing_core.proofs.GivenAnswers.{row_every}

refused : (hint : Option ℕ) (greatest level : ℕ) (p : Bool) → HintFits hint level p → level_of hint ≤ greatest → level ≤ 5 →
    nat_le level greatest ≡ false → p ≡ false
refused None greatest level p below over five above = absurd (grind arith)
refused (Some top) greatest level p below over five above = below (grind arith)

answered : (within : Bool) (k own : PlainInterest) (p b : Bool) → (within ≡ false → p ≡ false) → Covers k own → InterestFits own p →
    (if within then known_by k else Some false) ≡ Some b → p ≡ b
answered false k own p b outside covers fits e = outside refl ∙ (cc)
answered true Never own p b outside covers fits e = subst (λ x. InterestFits x p) covers fits ∙ (cc)
answered true Sometimes own p b outside covers fits e = absurd (cc)
answered true Always own p b outside covers fits e = subst (λ x. InterestFits x p) covers fits ∙ (cc)

module _ {S C : Type 0} (g : Ghosts S) (h : SiteGhosts C) where
  -- asking the subscriber of the callsite may answer this
  abbrev May : KeptSubscriber S → KeptCallsite C → At → Bool → Type 0
  May e row place b = g.answers e.subscriber (h.metadata_of row.callsite) place b

  known_right : (t : Table S C) (e : KeptSubscriber S) (row : KeptCallsite C) (place : At) (b p : Bool) → HasValidCache g h t e →
      IsTrueCallsite h row → CallsiteRight g h e.subscriber row → May e row place p → known t.greatest row.level row.interest ≡ Some b →
      p ≡ b
  known_right t e row place b p kept true_row right given e_known =
      let m = h.metadata_of row.callsite in
      let fair = g.fair e.subscriber kept.steady in
      answered (nat_le row.level t.greatest) row.interest right.0 p b
      (λ above. refused (g.hint e.subscriber) t.greatest m.level p (fair.below m place p true_row.1 given) kept.below true_row.1.1
      (subst (λ l. nat_le l t.greatest ≡ false) true_row.0 above))
      right.2 (fair.interest m place p right.0 true_row.1 given right.1) e_known

  asked_right : (t : Table S C) (e : KeptSubscriber S) (m : PlainMetadata) (place : At) (answer : Bool) (fs : List (KeptSubscriber S)) →
      subscriber_with e.serial t.subscribers ≡ Some e → AskGives g m place (Some e.serial) t.subscribers answer fs →
      g.answers e.subscriber m place answer
  asked_right t e m place answer fs there given =
      let asked : AskGivesAt g m place e.serial t.subscribers (Some e) answer fs =
      subst (λ o. AskGivesAt g m place e.serial t.subscribers o answer fs) there given in
      asked.1

  answer_right : (t : Table S C) (e : KeptSubscriber S) (row : KeptCallsite C) (place : At) (k : Option Bool) (answer p : Bool)
      (fs : List (KeptSubscriber S)) → known t.greatest row.level row.interest ≡ k → HasValidCache g h t e → IsTrueCallsite h row →
      CallsiteRight g h e.subscriber row → May e row place p → AnswerGives g h row place k (Some e.serial) t.subscribers answer fs →
      answer ≡ p
  answer_right t e row place (Some b) answer p fs found kept true_row right may given = given.0 ∙
      sym (known_right t e row place b p kept true_row right may found)
  answer_right t e row place None answer p fs found kept true_row right may given =
      let m = h.metadata_of row.callsite in
      g.single e.subscriber m place answer p kept.steady (asked_right t e m place answer fs kept.stands given) may

  place_every : (P : KeptCallsite C → Type 0) (place : ℕ) (callsites : List (KeptCallsite C)) (row : KeptCallsite C) →
      slice_get callsites place ≡ Some row → Every P callsites → P row
  place_every P place [] row found all = absurd (cc)
  place_every P zero (r ∷ callsites) row found all = let same : r ≡ row = cc in subst P same all.0
  place_every P (suc place) (r ∷ callsites) row found all = place_every P place callsites row found all.1

  gate_right_at : (t u : Table S C) (e : KeptSubscriber S) (row : KeptCallsite C) (o : Option (KeptCallsite C)) (place : At)
      (result : Option Bool) (p : Bool) → GateGivesAt g h t o place result u → o ≡ Some row → reached t place.lane ≡ Some e.serial →
      HasValidCache g h t e → IsTrueCallsite h row → CallsiteRight g h e.subscriber row →
      g.answers e.subscriber (h.metadata_of row.callsite) place p → result ≡ Some p
  gate_right_at t u e row o place result p given found reaches kept true_row right may =
      let at_row : GateGivesAt g h t (Some row) place result u = subst (λ x. GateGivesAt g h t x place result u) found given in
      let k = known t.greatest row.level row.interest in
      let answer = at_row.0.0 in
      let one : AnswerGives g h row place k (Some e.serial) t.subscribers answer u.subscribers =
      subst (λ x. AnswerGives g h row place k x t.subscribers answer u.subscribers) reaches at_row.0.2 in
      let same : answer ≡ p = answer_right t e row place k answer p u.subscribers refl kept true_row right may one in
      at_row.0.1 ∙ ap Some same

  -- a gate answers what asking the reached subscriber does
  pub gate_right : (t u : Table S C) (e : KeptSubscriber S) (row : KeptCallsite C) (identifier : ℕ) (place : At) (result : Option Bool)
      (p : Bool) → GateGives g h t identifier place result u → callsite_with identifier t.callsites ≡ Some row →
      reached t place.lane ≡ Some e.serial → HasValidCache g h t e → g.answers e.subscriber (h.metadata_of row.callsite) place p →
      result ≡ Some p
  gate_right t u e row identifier place result p given found reaches kept may =
      gate_right_at t u e row (callsite_with identifier t.callsites) place result p given found reaches kept
      (row_every (IsTrueCallsite h) identifier t.callsites row found kept.callsites)
      (row_every (CallsiteRight g h e.subscriber) identifier t.callsites row found kept.right) may

  -- so does one at an index
  pub index_right : (t u : Table S C) (e : KeptSubscriber S) (row : KeptCallsite C) (index : ℕ) (place : At) (result : Option Bool)
      (p : Bool) → GateGivesAt g h t (slice_get t.callsites index) place result u → slice_get t.callsites index ≡ Some row →
      reached t place.lane ≡ Some e.serial → HasValidCache g h t e → g.answers e.subscriber (h.metadata_of row.callsite) place p →
      result ≡ Some p
  index_right t u e row index place result p given found reaches kept may =
      gate_right_at t u e row (slice_get t.callsites index) place result p given found reaches kept
      (place_every (IsTrueCallsite h) index t.callsites row found kept.callsites)
      (place_every (CallsiteRight g h e.subscriber) index t.callsites row found kept.right) may
