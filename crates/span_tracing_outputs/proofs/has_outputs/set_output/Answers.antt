use Rattle.std.proofs.Common.{refl, ap, ◌∙◌}
use Rattle.std.specs.Prelude.{slice_get}
use Rattle.span_registry_layers.specs.Loans.{put_layer}
use Rattle.span_tracing_outputs.proofs.OutputSettings.{lined_none, lined_some}
use Rattle.span_tracing_outputs.proofs.has_outputs.set_output.Goals as goal

pub returns-in-Some : goal.returns-in-Some
returns-in-Some g c =
    ap (λ l. put_layer c.args.place l c.args.stack.now) c.set_layer.ensures
    ∙ lined_some c.args.stack.now c.args.place c.args.setting c.in-Some.layer.now (slice_get c.args.stack.now.rows c.args.place) refl
    c.in-Some.ensures.lent

pub returns-in_default : goal.returns-in_default
returns-in_default g c =
    lined_none c.args.stack.now c.args.place c.args.setting (slice_get c.args.stack.now.rows c.args.place) refl c.in_default.ensures.lent
