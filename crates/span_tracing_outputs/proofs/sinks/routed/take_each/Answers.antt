use Rattle.std.proofs.Common.{◌≡◌, ◌+◌, ℕ, Bool, get_or, ap, ◌∙◌, subst, arith}
use Rattle.span_tracing_outputs.specs.sinks.Routed.{TakesIf, TakesSent, goes_to}
use Rattle.span_tracing_outputs.proofs.sinks.RoutedLines.{next_turn}
use Rattle.span_tracing_outputs.proofs.sinks.routed.take_each.Goals as goal

pub loop-sink-preserved : goal.loop-sink-preserved
loop-sink-preserved g c =
    let takes = g.S.LineSink.takes in
    let route = c.args.route.now in
    let at = c.args.at in
    let level = c.args.level in
    let bytes = c.args.line.now in
    let inv = c.loop-sink.invariant in
    let goes : c.is_sent.result ≡ goes_to route level c.loop-sink.sink-index = c.is_sent.ensures ∙
    ap (λ (n : ℕ). goes_to route level n) inv.place in
    let became = subst (λ (b : Bool). TakesIf takes b (get_or c.loop-sink.sinks c.loop-sink.sink-index c.sink-item.result) at
    (record { level = level; bytes = bytes }) c.take_if.new.sink) goes c.take_if.ensures in
    let turn = next_turn (TakesSent takes route at (record { level = level; bytes = bytes })) c.args.sinks.now c.loop-sink.sinks
    c.loop-sink.sink-index c.sink-item.result c.take_if.new.sink
    (omega arith) (omega arith) (inv.done, inv.left) became in
    record { done = turn.0; left = turn.1; place = ap (λ (n : ℕ). n + 1) inv.place }
