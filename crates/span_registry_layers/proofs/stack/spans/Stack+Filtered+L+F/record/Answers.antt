use Rattle.tracing_core_fields.specs.requests.PlainRequests.{plain_record}
use Rattle.span_registry_layers.specs.Calls.{RecordGives}
use Rattle.span_registry_layers.specs.Stacks.{plain_stack}
use Rattle.span_registry_layers.specs.Steps.{record_keeps}
use Rattle.span_registry_layers.proofs.OnStack.{on_stack}
use Rattle.span_registry_layers.proofs.stack.spans.Stack+Filtered+L+F.record.Goals as goal

pub returns : goal.returns
returns g c =
    let both = on_stack g.F.Filter g.L.Layer (λ s t. RecordGives g.F.Filter g.L.Layer c.args.span.now (plain_record c.args.values.now)
    c.args.at s c.record.result t) (λ s t given. record_keeps g.F.Filter g.L.Layer c.args.span.now (plain_record c.args.values.now)
    c.args.at s t c.record.result given) _ _ (plain_stack c.record.new.self) c.self.view_is c.record.ensures in
    record { gives = both.0; kept = both.1 }
