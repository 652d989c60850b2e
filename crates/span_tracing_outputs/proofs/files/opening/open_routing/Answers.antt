use Rattle.std.proofs.Common.{sym, subst}
use Rattle.span_tracing_outputs.specs.files.OpenedStack.{OpensSink}
use Rattle.span_tracing_outputs.specs.files.OpenRefusals.{RoutingRefuses}
use Rattle.span_tracing_outputs.specs.declared.files.open_error.OpenStackError.{OpenStackError}
use Rattle.span_tracing_outputs.proofs.files.RequestedOutputs.{bad_route}
use Rattle.span_tracing_outputs.proofs.files.opening.open_routing.Goals as goal

pub returns-clause-refused : goal.returns-clause-refused
returns-clause-refused g c =
    subst (λ (told : OpenStackError). RoutingRefuses g.D.Folder.failed told c.args.routing) (sym c.at_output.ensures)
    (bad_route g.D.Folder.failed (OpensSink g.D.Folder.contents g.D.Folder.failed c.args.moment) c.args.routing
    c.in_ok-opened.opened.items c.in-Err.field-0 c.in_ok-opened.ensures.opened c.in-Err.ensures)
