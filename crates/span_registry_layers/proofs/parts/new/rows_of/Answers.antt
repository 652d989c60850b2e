use Rattle.std.proofs.Common.{◌≡◌, ◌∙◌, arith, length, sym, vec_len}
use Rattle.std.proofs.lemmas.Bool.Decides.{nat_tests}
use Rattle.span_registry_layers.proofs.NewStack.{rows_made}
use Rattle.span_registry_layers.proofs.parts.new.rows_of.Goals as goal

pub returns : goal.returns
returns g c =
    let told = sym c.is_empty.ensures ∙ c.loop-left-test.false in
    let none : vec_len c.loop-left.left ≡ 0 = grind (arith, nat_tests, told) in
    let empty : length c.loop-left.left.items ≡ 0 = omega (arith, none) in
    rows_made g.L.Layer c.args.registry.now c.args.outputs.items c.loop-left.registry c.loop-left.left.items c.loop-left.rows.items empty
    c.loop-left.invariant.made c.loop-left.invariant.all
