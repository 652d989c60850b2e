-- The maker of a layer, lent for writing.
use Rattle.std.specs.Borrow.{Lends, MutBor, Fml}
use denote.RattleType.{RattleType}
use Rattle.event_formatter.specs.declared.fmt_layer.layer.Layer.{Layer}
use Rattle.event_formatter.specs.declared.fmt_layer.output.Output.{Output}
use Rattle.event_formatter.specs.contracts.fmt_layer.layer.Layer.{the_row}
use Rattle.event_formatter.specs.contracts.fmt_layer.output.Output as output

-- an output ends with its maker as the last value behind r
abbrev pub LendsOwnMaker : (W : RattleType) → MutBor (Output W.Denot) → MutBor W.Denot → Fml
LendsOwnMaker W h r = Lends (output.the_row W) W h r (λ w. record h.now { maker = w })

-- a layer ends with its maker as the last value behind r
abbrev pub LendsMaker : (N E W : RattleType) → MutBor (Layer N.Denot E.Denot W.Denot) → MutBor W.Denot → Fml
LendsMaker N E W h r = Lends (the_row N E W) W h r (λ w. record h.now { output = record h.now.output { maker = w } })
