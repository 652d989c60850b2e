use Rattle.std.proofs.Common.{◌≤◌, ℕ, List, Option, slice_get, ap, sym, ◌∙◌, subst, add-one, rules}
use Rattle.span_tracing_outputs.specs.SinkLines.{cleared_at}
use Rattle.span_tracing_outputs.specs.StackFollows.{LinedStack}
use Rattle.span_tracing_outputs.specs.Turns.{Lined}
use Rattle.span_tracing_outputs.proofs.SinkLines.{all_cleared, clears_next, cleared_to, next_is}
use Rattle.span_tracing_outputs.proofs.hand.clear_lines.Goals as goal

pub loop-place-preserved : goal.loop-place-preserved
loop-place-preserved g c =
    let s = c.args.stack.now in
    let rows = s.rows in
    let place = c.loop-place.place in
    c.clear_at.ensures
    ∙ ap (λ (z : LinedStack _ _ _). record z { rows = cleared_at (slice_get z.rows place) place z.rows }) c.loop-place.invariant
    ∙ ap (λ (o : Option (Lined _ _ _)). record s { rows = cleared_at o place (cleared_to place rows) }) (next_is place rows)
    ∙ ap (λ (ls : List (Lined _ _ _)). record s { rows = ls }) (clears_next place rows)
    ∙ ap (λ (n : ℕ). record s { rows = cleared_to n rows }) (sym (add-one place))

pub returns : goal.returns
returns g c =
    let s = c.args.stack.now in
    let rows = s.rows in
    let place = c.loop-place.place in
    let past : c.args.count ≤ place = search rules in
    c.loop-place.invariant ∙ ap (λ (ls : List (Lined _ _ _)). record s { rows = ls })
    (all_cleared place rows (subst (λ (n : ℕ). n ≤ place) (sym c.requires) past))
