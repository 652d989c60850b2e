use Rattle.std.proofs.Common.{length}
use denote.Param.Always.{always_mut}
use Rattle.std.specs.Fn.{CalledAt}
use Rattle.span_registry_layers_layers.specs.FilterViews.{view}
use Rattle.event_formatter.specs.formats.EventSpans.{HandsEach, refs_at}
use Rattle.event_formatter.proofs.formats.context.hand_each.Given as goal

abbrev pub invariant-loop-id : goal.invariant-loop-id
invariant-loop-id g l =
    (always_mut g.F.FnMut l.initial.f → always_mut g.F.FnMut l.f)
    × ((answer : _) → HandsEach (λ p span r q. CalledAt g.F.FnMut p span r q) (refs_at (view l.context) l.rest) l.f answer
    → HandsEach (λ p span r q. CalledAt g.F.FnMut p span r q) (refs_at (view l.fn.context) l.fn.ids) l.fn.f answer)

abbrev pub decreases-loop-id : goal.decreases-loop-id
decreases-loop-id g l = length l.rest
