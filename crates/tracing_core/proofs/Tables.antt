-- Small facts on what tables hold.
use Rattle.std.proofs.Common.{◌≡◌, ℕ, Bool, List, Option, Some, None, false, refl, subst, ap, ◌∙◌, [], ◌∷◌, ◌++◌}
use Rattle.std.specs.Option.{is_some}
use Rattle.tracing_core.specs.InterestsAndHints.{CallsiteAsked}
use Rattle.tracing_core.specs.Table.{Table}
use Rattle.tracing_core.specs.TableRows.{KeptCallsite, KeptSubscriber}
use Rattle.tracing_core_fields.specs.declared.requests.subscriber.Subscriber.{Ghosts}
use Rattle.tracing_core_fields.specs.declared.requests.callsite.Callsite.{Ghosts as SiteGhosts}

pub none_of : {A : Type 0} (o : Option A) → is_some o ≡ false → o ≡ None
none_of None e = refl
none_of (Some x) e = absurd (cc)

-- the same callsite at the same index, asked of the same subscribers
pub asked_alike : {S C : Type 0} (g : Ghosts S) (h : SiteGhosts C) (all : Bool) (i j : ℕ) (es es' fs fs' : List (KeptSubscriber S))
    (row row' later : KeptCallsite C) → i ≡ j → es ≡ es' → row ≡ row' → fs ≡ fs' → CallsiteAsked g h all i es row later fs →
    CallsiteAsked g h all j es' row' later fs'
asked_alike g h all i j es es' fs fs' row row' later n e r f asked =
    subst (λ k. CallsiteAsked g h all k es' row' later fs') n
    (subst (λ x. CallsiteAsked g h all i es' row' later x) f
    (subst (λ x. CallsiteAsked g h all i es' x later fs) r (subst (λ x. CallsiteAsked g h all i x row later fs) e asked)))

-- the same subscribers and callsites
pub same_at : {S C : Type 0} (v t : Table S C) (es : List (KeptSubscriber S)) (rs : List (KeptCallsite C)) → v ≡ t → es ≡ v.subscribers →
    rs ≡ v.callsites → ◌≡◌ {A = Table S C} (record v { subscribers = es; callsites = rs }) t
same_at {S = S} {C = C} v t es rs e subscribers callsites =
    ap (λ (x : List (KeptSubscriber S)). record v { subscribers = x; callsites = rs }) subscribers ∙
    ap (λ (x : List (KeptCallsite C)). record v { callsites = x }) callsites ∙ e

-- a callsite more, and other subscribers
pub kept_at : {S C : Type 0} (v t : Table S C) (es : List (KeptSubscriber S)) (rs : List (KeptCallsite C)) (row : KeptCallsite C) → v ≡ t →
    rs ≡ v.callsites ++ row ∷ [] → ◌≡◌ {A = Table S C} (record v { subscribers = es; callsites = rs })
    (record t { subscribers = es; callsites = t.callsites ++ row ∷ [] })
kept_at {S = S} {C = C} v t es rs row e r =
    ap (λ (x : List (KeptCallsite C)). record v { subscribers = es; callsites = x }) r ∙
    ap (λ (x : Table S C). record x { subscribers = es; callsites = x.callsites ++ row ∷ [] }) e
