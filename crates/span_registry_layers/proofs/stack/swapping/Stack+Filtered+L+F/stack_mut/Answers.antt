use Rattle.std.proofs.Common.{refl, slice_get}
use Rattle.span_registry_layers.proofs.Swaps.{lent_numbers, lent_word}
use Rattle.span_registry_layers.proofs.stack.swapping.Stack+Filtered+L+F.stack_mut.Goals as goal

pub returns : goal.returns
returns g c =
    let rows = c.args.self.now.rows in (
      refl,
      record {
        lent = c.lend.ensures.lent;
        kept = λ w honest. lent_word g.F.Filter c.args.output w c.args.self.now honest;
        numbers = λ w same. lent_numbers g.L.Layer (λ lent. lent.now) c.args.output w rows (slice_get rows c.args.output) c.lend.result refl
            c.lend.ensures.lent same;
        ends = tt;
      },
    )
