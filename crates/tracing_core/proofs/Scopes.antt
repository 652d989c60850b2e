-- What calls within a lane's default leave of what a hub knows.
use Rattle.std.proofs.Common.{ℕ, Bool, true, false, Option, None, Result, Ok, Err, refl, ap, sym, subst}
use Rattle.std.specs.Borrow.{Bor, MutBor}
use Rattle.std.specs.Fn.{Once}
use Rattle.tracing_core.specs.Commands.{reached}
use Rattle.tracing_core.specs.Defaults.{guard_of, locally}
use Rattle.tracing_core_fields.specs.requests.Refusals.{or_same}
use Rattle.tracing_core.specs.CachePreservation.{PreservesCaches, PreservesLivingCaches}
use Rattle.tracing_core.specs.Scopes.{BodyLeaves, CallsLeave, CalledInside, CurrentGives, CurrentGivesAt, DefaultGives, DefaultGivesAt}
use Rattle.tracing_core.specs.Scopes.{WithDefaultGives, is_outside, marked}
use Rattle.tracing_core.specs.Table.{Table}
use Rattle.tracing_core_fields.specs.declared.requests.callsite.Callsite.{Ghosts as SiteGhosts}
use Rattle.tracing_core.specs.declared.guard.WrongLane.{WrongLane}
use Rattle.tracing_core.specs.declared.refusal.SetDefaultError.{SetDefaultError}
use Rattle.tracing_core_fields.specs.declared.requests.subscriber.Subscriber.{Ghosts}
use Rattle.tracing_core.proofs.CachePreservation.{default_keeps, itself_living, living_from, living_then, reset_keeps, same_keeps}

-- what holds of marks, of nothing done, and of one step after another, holds of a call if it holds of f
module _ {S C F T : Type 0} (g : Once F (MutBor (Table S C) × (Bor (Option ℕ) × Unit {0})) (T × (MutBor (Table S C) × Unit {0}))) (f : F)
    (R : Table S C → Table S C → Type 0) (marks : (t : Table S C) (lane : ℕ) (mark : Bool) → R t (marked t lane mark))
    (still : (t : Table S C) → R t t) (then : (t v u : Table S C) → R t v → R v u → R t u) (leaves : CallsLeave g f R) where
  inside : (t u : Table S C) (lane : ℕ) (answer : T) → CalledInside g f t lane answer u → R t u
  inside t u lane answer called =
      let v = marked t lane true in
      let left = called.0 in
      subst (R t) (sym called.2) (then t left (marked left lane false)
      (then t v left (marks t lane true) (leaves v left (reached t lane) answer called.1)) (marks left lane false))

  default_at : (t u : Table S C) (lane : ℕ) (b : Bool) (answer : T) → DefaultGivesAt g f t lane b answer u → R t u
  default_at t u lane true answer given = inside t u lane answer given
  default_at t u lane false answer given = leaves t u None answer given

  pub default_leaves : (t u : Table S C) (lane : ℕ) (answer : T) → DefaultGives g f t lane answer u → R t u
  default_leaves t u lane answer given = default_at t u lane (is_outside t lane) answer given

  current_at : (t u : Table S C) (lane : ℕ) (b : Bool) (answer : Option T) → CurrentGivesAt g f t lane b answer u → R t u
  current_at t u lane true answer given = inside t u lane given.0 given.2
  current_at t u lane false answer given = subst (R t) (sym given.1) (still t)

  pub current_leaves : (t u : Table S C) (lane : ℕ) (answer : Option T) → CurrentGives g f t lane answer u → R t u
  current_leaves t u lane answer given = current_at t u lane (is_outside t lane) answer given

module _ {S C : Type 0} (g : Ghosts S) (h : SiteGhosts C) where
  pub marks_keep : (t : Table S C) (lane : ℕ) (mark : Bool) → PreservesCaches g h t (marked t lane mark)
  marks_keep t lane mark = same_keeps g h t (marked t lane mark) refl (record { next = refl; callsites = refl; greatest = refl })

  pub marks_living : (t : Table S C) (lane : ℕ) (mark : Bool) → PreservesLivingCaches g h t (marked t lane mark)
  marks_living t lane mark = living_from g h t (marked t lane mark) (marks_keep t lane mark)

  pub with_default_living : {F T : Type 0} (call : Once F (MutBor (Table S C) × Unit {0}) (T × (MutBor (Table S C) × Unit {0}))) (f : F)
      (t u : Table S C) (lane : ℕ) (dispatch : Option ℕ) (r : Result (T × Result (Option S) WrongLane) SetDefaultError) →
      BodyLeaves call f (PreservesLivingCaches g h) → WithDefaultGives call f t lane dispatch r u → PreservesLivingCaches g h t u
  with_default_living call f t u lane dispatch (Ok done) leaves given =
      let v = locally t lane dispatch in
      let w = given.1.0 in
      let set : PreservesLivingCaches g h t v =
      living_from g h t v (default_keeps g h t v lane dispatch (ap (λ o. or_same o t v) (sym given.0))) in
      living_then g h t w u (living_then g h t v w set (leaves v w done.0 given.1.1))
      (reset_keeps g h w u lane (guard_of t lane) done.1 given.1.2)
  with_default_living call f t u lane dispatch (Err refusal) leaves given = subst (PreservesLivingCaches g h t) (sym given.1)
      (itself_living g h t)
