use Rattle.std.proofs.Common.{refl, slice_get}
use Rattle.span_registry_layers.proofs.Swaps.{layer_numbers, layer_word}
use Rattle.span_registry_layers.proofs.stack.swapping.Stack+Filtered+L+F.layer_mut.Goals as goal

pub returns : goal.returns
returns g c =
    let rows = c.args.self.now.rows in (
      refl,
      record {
        lent = c.lend_layer.ensures.lent;
        kept = λ w valid. layer_word g.F.Filter c.args.output w c.args.self.now valid;
        numbers = λ w same. layer_numbers g.L.Layer (λ lent. lent.now) c.args.output w rows (slice_get rows c.args.output)
            c.lend_layer.result refl c.lend_layer.ensures.lent same;
        ends = tt;
      },
    )
