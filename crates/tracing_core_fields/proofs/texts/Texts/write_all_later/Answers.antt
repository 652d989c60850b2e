use Rattle.std.proofs.Common.{◌++◌, arith, refl}
use Rattle.std.specs.Fmt.{comma_space}
use Rattle.std.proofs.lemmas.Grind.{put_two}
use Rattle.tracing_core_fields.proofs.NamesLemmas.{later_more}
use Rattle.tracing_core_fields.specs.Texts.{texts_in}
use Rattle.tracing_core_fields.proofs.texts.Texts.write_all_later.Goals as goal

pub loop-index-preserved : goal.loop-index-preserved
loop-index-preserved g c = λ plain.
    let before = c.loop-index.invariant plain in
    let now = c.in_ok-write_later.ensures before.plain refl in
    put_two _ _ _ _ _ _ _ before now (later_more (λ name. comma_space ++ name) (texts_in c.args.self.now) c.loop-index.index (omega arith)
    (omega arith))
