use Rattle.std.proofs.Common.{ap, sym, ◌∙◌}
use Rattle.span_tracing_outputs.specs.Turns.{Lines}
use Rattle.span_tracing_outputs.proofs.SinkLines.{idle_alone}
use Rattle.span_tracing_outputs.proofs.hand.is_idle.Goals as goal

pub returns-in-Some : goal.returns-in-Some
returns-in-Some g c idle = idle_alone c.args.stack.now.rows c.in-Some.output.now c.requires c.in-Some.ensures
    (sym (c.writer.ensures ∙ ap (λ (layer : Lines _ _). layer.output.maker) c.inner.ensures) ∙ c.is_empty.ensures idle)
