use Rattle.std.proofs.Common.{refl}
use Rattle.span_registry_layers.specs.NewStack.{new_refusal}
use Rattle.span_registry_layers.proofs.NewStack.{new_honest, new_numbers, new_word}
use Rattle.span_registry_layers.proofs.stack.Stack+Filtered+L+F.new.Goals as goal

pub returns-clause-numbers : goal.returns-clause-numbers
returns-clause-numbers g c = new_numbers g.L.Layer g.F.Filter c.args.outputs.items (new_refusal g.L.Layer c.args.outputs.items)
    c.build.result refl c.build.ensures

pub returns-clause-kept : goal.returns-clause-kept
returns-clause-kept g c = new_word g.L.Layer g.F.Filter c.args.outputs.items (new_refusal g.L.Layer c.args.outputs.items) c.build.result
    c.build.ensures

pub returns-clause-honest : goal.returns-clause-honest
returns-clause-honest g c honest = new_honest g.L.Layer g.F.Filter c.args.outputs.items (new_refusal g.L.Layer c.args.outputs.items)
    c.build.result c.build.ensures honest
