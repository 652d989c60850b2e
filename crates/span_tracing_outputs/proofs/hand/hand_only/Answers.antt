use Rattle.std.proofs.Common.{List, ap, ◌∙◌}
use Rattle.span_tracing_outputs.specs.Turns.{Lined}
use Rattle.span_tracing_outputs.proofs.SinkLines.{lone_cleared, lone_taken}
use Rattle.span_tracing_outputs.proofs.hand.hand_only.Goals as goal

pub returns : goal.returns
returns g c =
    let s = c.args.stack.now in (
      lone_taken g.S.LineSink.takes c.args.at s.rows c.args.sinks.now.items c.hand_lines.new.sinks.items c.requires.outputs c.requires.sinks
          c.hand_lines.ensures,
      c.clear_at.ensures ∙ ap (λ (ls : List (Lined _ _ _)). record s { rows = ls }) (lone_cleared s.rows c.requires.outputs),
    )
