-- A callsite that was registered is there.
use Rattle.std.proofs.Common.{◌≡◌, ◌==◌, ℕ, inl, inr, Bool, true, false, List, [], ◌∷◌, ◌++◌, Option, Some, None, Ok, Err, is_some, refl}
use Rattle.std.proofs.Common.{ap, sym, subst, ◌∙◌, Result, IsErrAnd}
use Rattle.std.specs.Prelude.{if◌then◌else◌}
use Rattle.std.proofs.lemmas.Bool.{eq-eqb}
use Rattle.std.proofs.lemmas.List.{map-append}
use Rattle.tracing_core_fields.specs.PlainMetadata.{PlainMetadata, is_same_metadata, is_same_metadata-decides}
use Rattle.tracing_core_fields.specs.requests.Interests.{PlainInterest}
use Rattle.tracing_core_fields.specs.declared.requests.subscriber.Subscriber.{Ghosts}
use Rattle.tracing_core.specs.Commands.{RegisterGivesAt, callsite_with, is_at, kept_alike}
use Rattle.tracing_core.specs.Table.{Table}
use Rattle.tracing_core.specs.TableRows.{KeptCallsite}
use Rattle.tracing_core.specs.declared.refusal.RegisterError.TheVariants as errors
use Rattle.span_tracing_skeleton.specs.Looking.{named}
use Rattle.span_tracing_skeleton.specs.declared.refusal.Refusal.TheVariants.{OutOfMemory}
use Rattle.span_tracing_skeleton.specs.declared.refusal.Refusal.{Refusal}
use Rattle.span_tracing_steps.specs.Callsites.{own_metadata}
use Rattle.span_tracing_steps.specs.Setup.{RegisterGives, own_at}
use Rattle.span_tracing_steps.specs.States.{StateValue, callsites_of}
use Rattle.span_tracing_steps.specs.contracts.callsite.TraceCallsiteCallsite.TheImpl.{ghosts}
use Rattle.span_tracing_steps.specs.declared.callsite.TraceCallsite.{TraceCallsite}
use Rattle.span_tracing.specs.Sites.{RegistersSite}
use Rattle.span_tracing.specs.declared.site.Site.{Site}

passed : (b : Bool) (n : PlainMetadata) (o : Option PlainMetadata) → is_some o ≡ true → is_some (if b then Some n else o) ≡ true
passed true n o e = refl
passed false n o e = e

met : (b : Bool) (n : PlainMetadata) (o : Option PlainMetadata) → b ≡ true → is_some (if b then Some n else o) ≡ true
met true n o e = refl
met false n o e = absurd (let odd : false ≡ true = e in cc)

last_named : (ms : List PlainMetadata) (m : PlainMetadata) → is_some (named (ms ++ m ∷ []) m.callsite) ≡ true
last_named [] m = met (m.callsite == m.callsite) m None (eq-eqb m.callsite m.callsite refl)
last_named (n ∷ ms) m = passed (n.callsite == m.callsite) n (named (ms ++ m ∷ []) m.callsite) (last_named ms m)

-- a row that the hub finds by its identifier, and whose metadata names it
found_if : (b : Bool) (number : ℕ) (row r : KeptCallsite TraceCallsite) (rows : List (KeptCallsite TraceCallsite)) →
    (own_metadata row.callsite).callsite ≡ number →
    (callsite_with number rows ≡ Some row → is_some (named (callsites_of rows) number) ≡ true) →
    (if b then Some r else callsite_with number rows) ≡ Some row → is_some (named (callsites_of (r ∷ rows)) number) ≡ true
found_if true number row r rows own later found =
    let same : r ≡ row = (let some : Some r ≡ Some row = found in cc) in
    met ((own_metadata r.callsite).callsite == number) (own_metadata r.callsite) (named (callsites_of rows) number)
    (eq-eqb (own_metadata r.callsite).callsite number
    (ap (λ (k : KeptCallsite TraceCallsite). (own_metadata k.callsite).callsite) same ∙ own))
found_if false number row r rows own later found =
    passed ((own_metadata r.callsite).callsite == number) (own_metadata r.callsite) (named (callsites_of rows) number) (later found)

found_named : (rows : List (KeptCallsite TraceCallsite)) (number : ℕ) (row : KeptCallsite TraceCallsite) →
    callsite_with number rows ≡ Some row → (own_metadata row.callsite).callsite ≡ number →
    is_some (named (callsites_of rows) number) ≡ true
found_named [] number row found own = absurd (let odd : None ≡ Some row = found in cc)
found_named (r ∷ rows) number row found own =
    found_if (is_at number r) number row r rows own (λ later. found_named rows number row later own) found

module _ {T : Type 0} (g : Ghosts T) (t u : Table T TraceCallsite) (callsite : TraceCallsite) (k : PlainInterest) where
  abbrev IsThere : Type 0
  IsThere = is_some (named (callsites_of u.callsites) (own_metadata callsite).callsite) ≡ true

  -- one that the hub knew
  known_there : (row : KeptCallsite TraceCallsite) (b : Bool) → callsite_with (own_metadata callsite).callsite t.callsites ≡ Some row →
      is_same_metadata (own_metadata row.callsite) (own_metadata callsite) ≡ b →
      RegisterGivesAt g ghosts t callsite (Some (if b then Some row.interest else None)) (Ok k) u → IsThere
  known_there row false found same gives = absurd (let odd : Ok k ≡ Err (errors.Taken callsite) = gives.0 in cc)
  known_there row true found same gives =
      ap (λ (x : Table T TraceCallsite). is_some (named (callsites_of x.callsites) (own_metadata callsite).callsite)) gives.1
      ∙ found_named t.callsites (own_metadata callsite).callsite row found
      (ap (λ (m : PlainMetadata). m.callsite) ((is_same_metadata-decides (own_metadata row.callsite) (own_metadata callsite)).0 same))

  -- one that it took, as the last one
  hub_there : (o : Option (KeptCallsite TraceCallsite)) → callsite_with (own_metadata callsite).callsite t.callsites ≡ o →
      RegisterGivesAt g ghosts t callsite (kept_alike ghosts (own_metadata callsite) o) (Ok k) u → IsThere
  hub_there None found w =
      let number = ap (λ (m : PlainMetadata). m.callsite) w.asked.1 in
      ap (λ (n : ℕ). is_some (named (callsites_of u.callsites) n)) (sym number)
      ∙ ap (λ (x : Table T TraceCallsite). is_some (named (callsites_of x.callsites) (own_metadata w.row.callsite).callsite)) w.kept
      ∙ ap (λ (ms : List PlainMetadata). is_some (named ms (own_metadata w.row.callsite).callsite))
      (map-append (λ (row : KeptCallsite TraceCallsite). own_metadata row.callsite) t.callsites (w.row ∷ []))
      ∙ last_named (callsites_of t.callsites) (own_metadata w.row.callsite)
  hub_there (Some row) found w =
      known_there row (is_same_metadata (own_metadata row.callsite) (own_metadata callsite)) found refl w

module _ {T : Type 0} (g : Ghosts T) where
  there : (v w : StateValue T) (m : PlainMetadata) (k : PlainInterest) → RegisterGives g v m (Ok k) w →
      is_some (named (callsites_of w.hub.callsites) m.callsite) ≡ true
  there v w m k (inl (callsite, own, gives)) =
      ap (λ (n : PlainMetadata). is_some (named (callsites_of w.hub.callsites) n.callsite)) (sym own)
      ∙ hub_there g v.hub w.hub callsite k (callsite_with (own_metadata callsite).callsite v.hub.callsites) refl gives.0
  there v w m k (inr (refused, same)) = absurd (let odd : Ok k ≡ Err OutOfMemory = refused in cc)

  pub is_there : (v w : StateValue T) (m : PlainMetadata) (k : PlainInterest) → RegisterGives g v m (Ok k) w →
      None ≡ named (callsites_of w.hub.callsites) m.callsite → ⊥
  is_there v w m k gives none = absurd (let is : is_some (named (callsites_of w.hub.callsites) m.callsite) ≡ true =
      there v w m k gives in cc)

  -- a refusal that is handed on
  pub refuses : (v w : StateValue T) (m : PlainMetadata) (r : Result Site Refusal) (refusal : Refusal) → IsErrAnd r (λ e. e ≡ refusal) →
      RegisterGives g v (own_at m.callsite m) (Err refusal) w → RegistersSite g v m r w
  refuses v w m (Ok site) refusal is gives = absurd is
  refuses v w m (Err e) refusal is gives = subst (λ (x : Refusal). RegisterGives g v (own_at m.callsite m) (Err x) w) (sym is) gives
