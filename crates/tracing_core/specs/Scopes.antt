-- Calls within a lane's default.
use Rattle.std.specs.Prelude.{◌≡◌, ℕ, Bool, true, false, Option, Some, None, Result, Ok, Err, slice_get, slice_set}
use Rattle.std.specs.Borrow.{Bor, MutBor}
use Rattle.std.specs.Fn.{Once, FnOnceReturnsAtMut}
use Rattle.tracing_core.specs.Commands.{reached}
use Rattle.tracing_core.specs.Defaults.{default_refusal, guard_of, locally, reset_gives}
use Rattle.tracing_core.specs.Table.{Table}
use Rattle.tracing_core.specs.declared.guard.WrongLane.{WrongLane}
use Rattle.tracing_core.specs.declared.refusal.SetDefaultError.{SetDefaultError}

abbrev pub is_unmarked : Option Bool → Bool
is_unmarked None = false
is_unmarked (Some true) = false
is_unmarked (Some false) = true

module _ {S C : Type 0} where
  -- whether a lane was given, and its subscriber isn't lent
  abbrev pub is_outside : Table S C → ℕ → Bool
  is_outside t lane = is_unmarked (slice_get t.entered lane)

  -- with another mark of a lane
  abbrev pub marked : Table S C → ℕ → Bool → Table S C
  marked t lane mark = record t { entered = slice_set t.entered lane mark }

module _ {S C F T : Type 0} (g : Once F (MutBor (Table S C) × (Bor (Option ℕ) × Unit {0})) (T × (MutBor (Table S C) × Unit {0}))) (f : F)
  where
    -- f was called once, with the hub as t and a handle, gave this answer, and left the hub as u
    pub record CalledWith (t : Table S C) (dispatch : Option ℕ) (answer : T) (u : Table S C) : Type 0 where
      pub shown : MutBor (Table S C)
      pub shows : shown.now ≡ t
      pub lent : Bor (Option ℕ)
      pub leads : lent.now ≡ dispatch
      pub left : MutBor (Table S C)
      pub met : g.post f (shown, (lent, tt)) (answer, (left, tt))
      pub leaves : left.now ≡ u

    -- a call of f leaves the hub so, whatever the hub and the handle
    abbrev pub CallsLeave : (Table S C → Table S C → Type 0) → Type 0
    CallsLeave R = (t u : Table S C) (dispatch : Option ℕ) (answer : T) → CalledWith t dispatch answer u → R t u

    -- f was called with a handle to the subscriber that the lane reaches, and the lane was marked meanwhile
    abbrev pub CalledInside : Table S C → ℕ → T → Table S C → Type 0
    CalledInside t lane answer u = (left : Table S C) × CalledWith (marked t lane true) (reached t lane) answer left ×
        (u ≡ marked left lane false)

    abbrev pub DefaultGivesAt : Table S C → ℕ → Bool → T → Table S C → Type 0
    DefaultGivesAt t lane true answer u = CalledInside t lane answer u
    DefaultGivesAt t lane false answer u = CalledWith t None answer u

    -- inside such a call, f gets the handle to no subscriber
    abbrev pub DefaultGives : Table S C → ℕ → T → Table S C → Type 0
    DefaultGives t lane answer u = DefaultGivesAt t lane (is_outside t lane) answer u

    abbrev pub CurrentGivesAt : Table S C → ℕ → Bool → Option T → Table S C → Type 0
    CurrentGivesAt t lane true answer u = (given : T) × (answer ≡ Some given) × CalledInside t lane given u
    CurrentGivesAt t lane false answer u = (answer ≡ None) × (u ≡ t)

    -- inside such a call, f isn't called
    abbrev pub CurrentGives : Table S C → ℕ → Option T → Table S C → Type 0
    CurrentGives t lane answer u = CurrentGivesAt t lane (is_outside t lane) answer u

-- a call of f leaves the hub so, whatever the hub
abbrev pub BodyLeaves : {S C F T : Type 0} → Once F (MutBor (Table S C) × Unit {0}) (T × (MutBor (Table S C) × Unit {0})) → F →
    (Table S C → Table S C → Type 0) → Type 0
BodyLeaves {S} {C} {F} {T} g f R = (t u : Table S C) (answer : T) → FnOnceReturnsAtMut g f t answer u → R t u

-- the default was set, f was called, and the lane was reset
abbrev pub WithDefaultGives : {S C F T : Type 0} → Once F (MutBor (Table S C) × Unit {0}) (T × (MutBor (Table S C) × Unit {0})) → F →
    Table S C → ℕ → Option ℕ → Result (T × Result (Option S) WrongLane) SetDefaultError → Table S C → Type 0
WithDefaultGives {S} {C} g f t lane dispatch (Ok done) u =
    (default_refusal t lane dispatch ≡ None)
    × ((left : Table S C) × FnOnceReturnsAtMut g f (locally t lane dispatch) done.0 left ×
    ((done.1, u) ≡ reset_gives left lane (guard_of t lane)))
WithDefaultGives g f t lane dispatch (Err refusal) u = (default_refusal t lane dispatch ≡ Some refusal) × (u ≡ t)
