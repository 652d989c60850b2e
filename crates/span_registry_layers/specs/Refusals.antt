-- Which callsites may be of interest to nobody.
use Rattle.std.specs.Prelude.{ℕ, ◌==◌, ◌&&◌, ◌||◌, nat_eq, nat_lt, not, Bool}
use Rattle.std.specs.HashMap.{get}
use Rattle.std.specs.Option.{is_some}
use Rattle.tracing_core_fields.specs.requests.Interests.{says_never}
use Rattle.span_registry_layers.specs.InterestCache.{PlainCachedInterest}
use Rattle.span_registry_layers.specs.declared.refusals.Refusals.{Refusals}

-- a callsite of the number was noted, or one found no memory to be noted
abbrev pub is_noted : Refusals → ℕ → Bool
is_noted r n = r.lacks_some || is_some (get nat_eq r.indices n)

-- a callsite of the number and the level may be: one of the number was noted, and one that isn't more verbose
abbrev pub may_refuse : Refusals → ℕ → ℕ → Bool
may_refuse r n level = not (nat_lt level r.least) && is_noted r n

-- it is kept of a callsite of the number and the level that nobody is interested
abbrev pub is_refusal_of : ℕ → ℕ → PlainCachedInterest → Bool
is_refusal_of n level site = says_never site.interest && (site.metadata.callsite == n && site.metadata.level == level)
