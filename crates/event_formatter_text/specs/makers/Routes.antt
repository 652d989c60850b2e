-- Which sinks a route names, and which of them take a line.
use Rattle.std.specs.Prelude.{ℕ, Bool, true, false, ◌&&◌, not, ◌==◌, nat_le, nat_lt, if◌then◌else◌, List, [], ◌∷◌, ◌++◌}
use Rattle.std.specs.List.{list_all, list_any}
use Rattle.event_formatter_text.specs.declared.makers.route.Route.{Route}
use Rattle.event_formatter_text.specs.declared.makers.route.Route.TheVariants.{Sink, MaxLevel', MinLevel', Tee', OrElse'}

-- the sinks that a route names, in order
abbrev pub sinks_of : Route → List ℕ
sinks_of (Sink sink) = sink ∷ []
sinks_of (MaxLevel' level p route) = sinks_of route
sinks_of (MinLevel' level p route) = sinks_of route
sinks_of (Tee' p first q second) = sinks_of first ++ sinks_of second
sinks_of (OrElse' p first q second) = sinks_of first ++ sinks_of second

-- whether the level passes the route's own bound
abbrev pub takes : Route → ℕ → Bool
takes (Sink sink) level = true
takes (MaxLevel' most p route) level = nat_le level most
takes (MinLevel' least p route) level = nat_le least level
takes (Tee' p first q second) level = true
takes (OrElse' p first q second) level = true

-- the sinks that take a line of the level, in order
abbrev pub taken_sinks : Route → ℕ → List ℕ
taken_sinks (Sink sink) level = sink ∷ []
taken_sinks (MaxLevel' most p route) level = if nat_le level most then taken_sinks route level else []
taken_sinks (MinLevel' least p route) level = if nat_le least level then taken_sinks route level else []
taken_sinks (Tee' p first q second) level = taken_sinks first level ++ taken_sinks second level
taken_sinks (OrElse' p first q second) level =
    if takes first level then taken_sinks first level else taken_sinks second level

-- whether the route has a bound of its own
abbrev pub is_bounded : Route → Bool
is_bounded (Sink sink) = false
is_bounded (MaxLevel' level p route) = true
is_bounded (MinLevel' level p route) = true
is_bounded (Tee' p first q second) = false
is_bounded (OrElse' p first q second) = false

-- whether the first part of each `OrElse` has a bound of its own
abbrev pub are_bounded : Route → Bool
are_bounded (Sink sink) = true
are_bounded (MaxLevel' level p route) = are_bounded route
are_bounded (MinLevel' level p route) = are_bounded route
are_bounded (Tee' p first q second) = are_bounded first && are_bounded second
are_bounded (OrElse' p first q second) = is_bounded first && (are_bounded first && are_bounded second)

-- whether no sink stands twice
abbrev pub is_distinct : List ℕ → Bool
is_distinct [] = true
is_distinct (sink ∷ sinks) = not (list_any (λ other. other == sink) sinks) && is_distinct sinks

-- whether the sink is one of them
abbrev pub has_sink : ℕ → List ℕ → Bool
has_sink sink sinks = list_any (λ other. other == sink) sinks

-- whether no sink of the first stands in the second
abbrev pub are_apart : List ℕ → List ℕ → Bool
are_apart first second = list_all (λ sink. not (has_sink sink second)) first

-- whether every sink is there, none stands twice, and each `OrElse` has a bound to ask
abbrev pub is_good_route : ℕ → Route → Bool
is_good_route count route =
    list_all (λ sink. nat_lt sink count) (sinks_of route) && (is_distinct (sinks_of route) && are_bounded route)
