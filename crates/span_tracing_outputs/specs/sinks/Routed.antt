-- Sinks to which lines go by a route.
use Rattle.std.specs.Prelude.{◌≡◌, ◌+◌, ℕ, Bool, true, false, List, [], ◌∷◌, length, Some, Result, Ok, Err, slice_get}
use Rattle.tracing_core_moments.specs.declared.at.At.{At}
use Rattle.event_formatter_text.specs.makers.Routes.{has_sink, is_good_route, taken_sinks}
use Rattle.event_formatter_text.specs.declared.makers.route.Route.{Route}
use Rattle.span_tracing_outputs.specs.OutputMachines.{PlainLine}
use Rattle.span_tracing_outputs.specs.declared.sinks.routed.UnroutedSinks.{UnroutedSinks}
use Rattle.span_tracing_outputs.specs.sinks.Runs.{TakesRun}

-- a route and its sinks, each at its number
pub record Routed (S : Type 0) : Type 0 where
  pub route : Route
  pub sinks : List S

-- whether a line of the level goes to the sink with this number
abbrev pub goes_to : Route → ℕ → ℕ → Bool
goes_to route level place = has_sink place (taken_sinks route level)

-- they are kept where the route is good for so many sinks; else both come back
abbrev pub RoutingIf : {S : Type 0} → Bool → Route → List S → Result (Routed S) (UnroutedSinks S) → Type 0
RoutingIf true route sinks (Ok made) = made ≡ record { route = route; sinks = sinks }
RoutingIf true route sinks (Err refused) = ⊥
RoutingIf false route sinks (Ok made) = ⊥
RoutingIf false route sinks (Err refused) = (refused.route ≡ route) × (refused.sinks.items ≡ sinks)

abbrev pub RoutingGives : {S : Type 0} → Route → List S → Result (Routed S) (UnroutedSinks S) → Type 0
RoutingGives route sinks result = RoutingIf (is_good_route (length sinks) route) route sinks result

-- each became what stands at its place, by its number, of which the first is this
abbrev pub EachFrom : {S : Type 0} → (ℕ → S → S → Type 0) → ℕ → List S → List S → Type 0
EachFrom becomes place [] [] = Unit {0}
EachFrom becomes place [] (new ∷ news) = ⊥
EachFrom becomes place (old ∷ olds) [] = ⊥
EachFrom becomes place (old ∷ olds) (new ∷ news) = becomes place old new × EachFrom becomes (place + 1) olds news

module _ {S : Type 0} (takes : S → At → PlainLine → S → Type 0) where
  -- a sink to which a line goes takes it, and any other stays as it is
  abbrev pub TakesIf : Bool → S → At → PlainLine → S → Type 0
  TakesIf true old at line new = takes old at line new
  TakesIf false old at line new = new ≡ old

  -- the sink with a number takes a line where the route sends it there
  abbrev pub TakesSent : Route → At → PlainLine → ℕ → S → S → Type 0
  TakesSent route at line place old new = TakesIf (goes_to route line.level place) old at line new

  -- a line goes to the sinks that the route says
  abbrev pub TakesRouted : Routed S → At → PlainLine → Routed S → Type 0
  TakesRouted old at line new = (new.route ≡ old.route) × EachFrom (TakesSent old.route at line) 0 old.sinks new.sinks

-- those of the lines that go to a sink, in order
abbrev pub sent_if : Bool → At × PlainLine → List (At × PlainLine) → List (At × PlainLine)
sent_if true line later = line ∷ later
sent_if false line later = later

abbrev pub sent_to : Route → ℕ → List (At × PlainLine) → List (At × PlainLine)
sent_to route place [] = []
sent_to route place (line ∷ lines) = sent_if (goes_to route line.1.level place) line (sent_to route place lines)

module _ {S : Type 0} (takes : S → At → PlainLine → S → Type 0) where
  -- a sink took those of the lines that go to it, whatever becomes of them at the other sinks
  pub record TookTheirs (lines : List (At × PlainLine)) (old new : Routed S) : Type 0 where
    pub route : new.route ≡ old.route
    pub sinks : (place : ℕ) (sink : S) → slice_get old.sinks place ≡ Some sink →
        (taken : S) × (slice_get new.sinks place ≡ Some taken) × TakesRun takes (sent_to old.route place lines) sink taken

  abbrev pub RoutedTakeTheirs : Type 0
  RoutedTakeTheirs = (lines : List (At × PlainLine)) (old new : Routed S) → TakesRun (TakesRouted takes) lines old new →
      TookTheirs lines old new
