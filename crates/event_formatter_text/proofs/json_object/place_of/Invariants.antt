use Rattle.std.proofs.Common.{◌≡◌, ◌++◌, List, ℕ, drop, map, take}
use Rattle.event_formatter_text.specs.JsonObjects.{pair_of, put}
use Rattle.event_formatter_text.proofs.json_object.place_of.Given as goal

abbrev pub invariant-loop-place : goal.invariant-loop-place
invariant-loop-place l = (value : List ℕ) → put l.key value (map pair_of l.members) ≡ take l.place (map pair_of l.members) ++
    put l.key value (drop l.place (map pair_of l.members))
