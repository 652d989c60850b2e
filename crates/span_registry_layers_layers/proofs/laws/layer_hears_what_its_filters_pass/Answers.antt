use Rattle.span_registry_layers_layers.proofs.Spans.{tells_events, tells_spans}
use Rattle.span_registry_layers_layers.proofs.laws.layer_hears_what_its_filters_pass.Goals as goal

pub returns-clause-notified : goal.returns-clause-notified
returns-clause-notified g c = λ w s t said v l told lead. g.met.W.Way.tells w s.layer said v t.inner t.layer l told lead

pub returns-clause-event : goal.returns-clause-event
returns-clause-event g c = λ w. tells_events g.T.Layer g.L.Layer (g.W.Way.leads w) (g.W.Way.passes w) (g.met.W.Way.tells w)

pub returns-clause-span : goal.returns-clause-span
returns-clause-span g c = λ w. tells_spans g.T.Layer g.L.Layer (g.W.Way.leads w) (g.W.Way.passes w) (g.W.Way.asks w) (g.met.W.Way.tells w)
    (g.met.W.Way.keeps w)
