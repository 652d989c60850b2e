use Rattle.std.proofs.Common.{◌≡◌, ◌<◌, ◌≤◌, ℕ, List, Option, length, slice_get, ap, sym, ◌∙◌, subst, add-one, rules}
use Rattle.span_tracing_outputs.specs.SinkLines.{LinesIf, cleared_at}
use Rattle.span_tracing_outputs.specs.StackFollows.{LinedStack}
use Rattle.span_tracing_outputs.specs.Turns.{Lined}
use Rattle.span_tracing_outputs.proofs.SinkLines.{TakesFrom, all_cleared, all_taken, cleared_to, clears_next, lines_length, next_is, turn}
use Rattle.span_tracing_outputs.proofs.hand.hand_each.Goals as goal

pub loop-place-preserved : goal.loop-place-preserved
loop-place-preserved g c =
    let takes = g.S.LineSink.takes in
    let at = c.args.at in
    let s = c.args.stack.now in
    let rows = s.rows in
    let place = c.loop-place.place in
    let sinks = c.loop-place.sinks.items in
    let nexts = c.hand_lines.new.sinks.items in
    let inv = c.loop-place.invariant in
    let same : length sinks ≡ length rows = inv.sinks ∙ c.requires in
    let within : place < length sinks = search rules in
    let row : slice_get c.loop-place.stack.rows place ≡ slice_get rows place = ap (λ (z : LinedStack _ _ _). slice_get z.rows place)
    inv.stack ∙ next_is place rows in
    let lines : LinesIf takes at (slice_get rows place) place sinks nexts =
    subst (λ (o : Option (Lined _ _ _)). LinesIf takes at o place sinks nexts) row c.hand_lines.ensures in
    record {
      whole = λ sinks_after later. inv.whole sinks_after
          (turn takes at place rows sinks nexts same within lines sinks_after
          (subst (λ (n : ℕ). TakesFrom takes at n rows nexts sinks_after) (add-one place) later));
      stack = c.clear_at.ensures
          ∙ ap (λ (z : LinedStack _ _ _). record z { rows = cleared_at (slice_get z.rows place) place z.rows }) inv.stack
          ∙ ap (λ (o : Option (Lined _ _ _)). record s { rows = cleared_at o place (cleared_to place rows) }) (next_is place rows)
          ∙ ap (λ (ls : List (Lined _ _ _)). record s { rows = ls }) (clears_next place rows)
          ∙ ap (λ (n : ℕ). record s { rows = cleared_to n rows }) (sym (add-one place));
      sinks = lines_length takes at (slice_get rows place) place sinks nexts lines ∙ inv.sinks;
    }

pub returns : goal.returns
returns g c =
    let s = c.args.stack.now in
    let rows = s.rows in
    let place = c.loop-place.place in
    let sinks = c.loop-place.sinks.items in
    let inv = c.loop-place.invariant in
    let same : length sinks ≡ length rows = inv.sinks ∙ c.requires in
    let past : length sinks ≤ place = search rules in (
      inv.whole sinks (all_taken g.S.LineSink.takes c.args.at place rows sinks same past),
      inv.stack ∙ ap (λ (ls : List (Lined _ _ _)). record s { rows = ls })
          (all_cleared place rows (subst (λ (n : ℕ). n ≤ place) same past)),
    )
