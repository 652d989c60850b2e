use Rattle.std.proofs.Common.{refl, of_calls}
use Rattle.std.specs.Fn.{CalledAt}
use Rattle.span_registry_layers_layers.specs.FilterViews.{view}
use Rattle.event_formatter.proofs.formats.EventSpans.{all_done, hand_over, refuse}
use Rattle.event_formatter.proofs.formats.context.hand_each.Goals as goal

pub loop-id-preserved : goal.loop-id-preserved
loop-id-preserved g c =
    let turn : CalledAt g.F.FnMut _ c.in-Some-span.span _ c.f.new.self =
    record { shown = _; shows = refl; called = c.in_ok-f.ensures } in (
      search of_calls,
      λ answer rest. c.loop-id.invariant.1 answer
          (hand_over (λ p span r q. CalledAt g.F.FnMut p span r q) (view c.args.context.now) c.in-Some.ensures.cases.0
          c.in-Some-span.ensures turn rest),
    )

pub returns-in_err-f : goal.returns-in_err-f
returns-in_err-f g c =
    let turn : CalledAt g.F.FnMut _ c.in-Some-span.span _ c.f.new.self =
    record { shown = _; shows = refl; called = c.in_err-f.ensures } in
    c.loop-id.invariant.1 _
    (refuse (λ p span r q. CalledAt g.F.FnMut p span r q) (view c.args.context.now) c.from_residual.result c.in-Some.ensures.cases.0
    c.in-Some-span.ensures turn c.from_residual.ensures.1)

pub returns : goal.returns
returns g c =
    c.loop-id.invariant.1 _
    (all_done (λ p span r q. CalledAt g.F.FnMut p span r q) (view c.args.context.now) _ c.in_default.ensures.cases)
