-- Which road a run takes.
use Rattle.std.specs.Prelude.{Bool, true, false}
use Rattle.span_tracing_laws.specs.runs.Runs.{Asking, Caching, Road}

-- by whether all filters are asked anew before each step
abbrev pub road_of : Bool → Road
road_of false = Caching
road_of true = Asking
