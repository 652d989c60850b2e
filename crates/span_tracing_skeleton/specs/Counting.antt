-- Who holds a stack, counted afresh.
use Rattle.std.specs.Prelude.{◌≡◌, ◌↔◌, ◌<◌, ℕ, ◌+◌, List, [], ◌∷◌, count_by, Bool, cond, IsTrue, Option, Some, None}
use Rattle.tracing_core_fields.specs.PlainMetadata.{PlainMetadata}
use Rattle.span_registry_layers_store.specs.Registries.{RegistryValue}
use Rattle.span_tracing_skeleton.specs.Looking.{chosen, default_of, guard_at, is_held, knows_stack, leads_to, or_global, reach}
use Rattle.span_tracing_skeleton.specs.Looking.{stack_behind, stack_with}
use Rattle.span_tracing_skeleton.specs.Machine.{after}
use Rattle.span_tracing_skeleton.specs.PlainData.{PlainStep}
use Rattle.span_tracing_skeleton.specs.Setup.{with_callsite, with_lane, with_stack}
use Rattle.span_tracing_skeleton.specs.Skeleton.{Skeleton, HeldStack, GuardValue, Default, Answers, new_skeleton}

-- the stack that a guard keeps
abbrev pub kept_by : Option GuardValue → Option ℕ
kept_by None = None
kept_by (Some g) = chosen g.restores

abbrev pub one_if : Bool → ℕ
one_if test = cond test 1 0

-- its handles, the lanes whose own default it is, the guards that keep it, and the global default
abbrev pub holders : Skeleton → ℕ → ℕ
holders s stack =
    count_by (λ (handle : Option ℕ). leads_to handle stack) s.handles
    + (count_by (λ (own : Default). leads_to (chosen own) stack) s.lanes
    + (count_by (λ (guard : Option GuardValue). leads_to (kept_by guard) stack) s.guards
    + one_if (leads_to (chosen s.default) stack)))

abbrev pub holds_of : Option HeldStack → ℕ
holds_of None = 0
holds_of (Some k) = k.holds

-- how many hold the stack, as it counts them; a stack that isn't there is held by none
abbrev pub holds_at : ℕ → List HeldStack → ℕ
holds_at stack ks = holds_of (stack_with stack ks)

-- numbers were given and differ, and somebody holds each stack
abbrev pub AreNumbered : ℕ → List HeldStack → Type 0
AreNumbered given [] = Unit {0}
AreNumbered given (k ∷ ks) = (k.number < given) × (0 < k.holds) × (stack_with k.number ks ≡ None) × AreNumbered given ks

-- each stack is held by as many as it counts
pub record IsCounted (s : Skeleton) : Type 0 where
  pub counts : (stack : ℕ) → holds_at stack s.stacks ≡ holders s stack
  pub numbers : AreNumbered s.given s.stacks

-- stacks are counted in a new skeleton, after each callsite, lane and stack that is added, and after each step. Where they are, exactly
-- those are held that somebody holds. So what a lane, a handle or a guard leads to is never released
pub record StaysCounted : Type 0 where
  pub new : IsCounted new_skeleton
  pub callsite_added : (s : Skeleton) (m : PlainMetadata) → IsCounted s → IsCounted (with_callsite s m)
  pub lane_added : (s : Skeleton) → IsCounted s → IsCounted (with_lane s)
  pub stack_added : (s : Skeleton) (registry : RegistryValue) (count sinks : ℕ) → IsCounted s →
      IsCounted (with_stack s registry count sinks)
  pub stepped : (s : Skeleton) (step : PlainStep) (a : Answers) → IsCounted s → IsCounted (after s step a)
  pub held : (s : Skeleton) (stack : ℕ) → IsCounted s → IsTrue (is_held s stack) ↔ 0 < holders s stack
  pub given : (s : Skeleton) (stack : ℕ) → IsCounted s → IsTrue (is_held s stack) → IsTrue (knows_stack s stack)
  pub reached : (s : Skeleton) (lane : ℕ) → IsCounted s → reach s lane ≡ chosen (or_global (default_of s lane) s.default)
  pub behind : (s : Skeleton) (handle stack : ℕ) → IsCounted s → stack_behind s handle ≡ Some stack → IsTrue (is_held s stack)
  pub kept : (s : Skeleton) (guard stack : ℕ) → IsCounted s → kept_by (guard_at s guard) ≡ Some stack → IsTrue (is_held s stack)
