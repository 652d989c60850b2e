-- The parts of a layer with a filter, lent for writing.
use Rattle.std.specs.Borrow.{Lends, MutBor, Fml}
use denote.RattleType.{RattleType}
use Rattle.span_registry_layers_layers.specs.declared.filtered.Filtered.{Filtered}
use Rattle.span_registry_layers_layers.specs.contracts.filtered.Filtered.{the_row}

-- it ends with its filter as the last value behind r
abbrev pub LendsFilter : (L F : RattleType) → MutBor (Filtered L.Denot F.Denot) → MutBor F.Denot → Fml
LendsFilter L F h r = Lends (the_row L F) F h r (λ w. record h.now { filter = w })

-- it ends with its layer as the last value behind r
abbrev pub LendsLayer : (L F : RattleType) → MutBor (Filtered L.Denot F.Denot) → MutBor L.Denot → Fml
LendsLayer L F h r = Lends (the_row L F) L h r (λ w. record h.now { layer = w })
