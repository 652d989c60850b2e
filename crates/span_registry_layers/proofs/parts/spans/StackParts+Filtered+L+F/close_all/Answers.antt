use Rattle.std.proofs.Common.{ap, ◌∙◌}
use Rattle.span_registry_layers_layers.specs.declared.filtered.Filtered.{Filtered}
use Rattle.span_registry_layers.specs.Stacks.{StackValue}
use Rattle.span_registry_layers.proofs.ClosedSpans.{one_closed}
use Rattle.span_registry_layers.proofs.parts.spans.StackParts+Filtered+L+F.close_all.Goals as goal

pub loop-at-preserved : goal.loop-at-preserved
loop-at-preserved g c =
    let one = c.loop-at-test.ensures in
    let s = c.loop-at.self in
    let t = c.close_next.new.self in
    record {
      each = λ y later rest. c.loop-at.invariant.each y later (one_closed g.F.Filter g.L.Layer c.args.at one.0 s.registry one.1 t.registry y
          s.rows.items t.rows.items later one.2 one.3 one.4 rest);
      same = one.5 ∙ c.loop-at.invariant.same;
      rest = one.6 ∙ ap (λ (v : StackValue (Filtered g.row.L.Denot g.row.F.Denot)). record v { registry = t.registry; rows = t.rows.items })
          c.loop-at.invariant.rest;
    }
