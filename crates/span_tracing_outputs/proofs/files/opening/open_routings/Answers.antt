use Rattle.std.proofs.Common.{◌∷◌, ◌++◌, [], inr, refl, sym, subst}
use Rattle.std.specs.Vec.Iter.{into_iter_items}
use Rattle.span_tracing_skeleton.specs.declared.refusal.Refusal.TheVariants.{OutOfMemory}
use Rattle.span_tracing_outputs.specs.files.OpenedStack.{OpensRouting, Pairs}
use Rattle.span_tracing_outputs.specs.files.OpenRefusals.{InOne, RoutingRefuses, at_output}
use Rattle.span_tracing_outputs.specs.declared.files.open_error.OpenStackError.{OpenStackError}
use Rattle.span_tracing_outputs.proofs.files.FolderRefusals.{first_refuses, goes_out, later_refuses}
use Rattle.span_tracing_outputs.proofs.files.PairedLists.{pairs_more}
use Rattle.span_tracing_outputs.proofs.files.opening.open_routings.Goals as goal

pub loop-routing-preserved : goal.loop-routing-preserved
loop-routing-preserved g c = record {
  opened = subst (Pairs (OpensRouting g.D.Folder.contents g.D.Folder.failed c.args.moment) (c.loop-routing.yielded ++
      c.in-Some.routing ∷ [])) (sym c.in-Ok.ensures.items) (pairs_more (OpensRouting g.D.Folder.contents g.D.Folder.failed c.args.moment)
      c.loop-routing.yielded c.loop-routing.opened.items c.in-Some.routing c.in_ok-routed.routed c.loop-routing.invariant.opened
      c.in_ok-routed.ensures.opened);
  refused = λ told one. c.loop-routing.invariant.refused told
      (later_refuses (RoutingRefuses g.D.Folder.failed told) (into_iter_items c.loop-routing.routing-iterator) c.in-Some.routing
      (into_iter_items c.next.new.self) c.in-Some.ensures.steps.0 one);
}

pub returns-in_err-routed-clause-refused : goal.returns-in_err-routed-clause-refused
returns-in_err-routed-clause-refused g c =
    goes_out (λ (told : OpenStackError). InOne (RoutingRefuses g.D.Folder.failed told) c.args.routings.items) c.from_residual.result
    c.in_err-routed.field-0.0 c.from_residual.ensures.1
    (c.loop-routing.invariant.refused c.in_err-routed.field-0.0
    (first_refuses (RoutingRefuses g.D.Folder.failed c.in_err-routed.field-0.0) (into_iter_items c.loop-routing.routing-iterator)
    c.in-Some.routing
    (into_iter_items c.next.new.self) c.in-Some.ensures.steps.0 c.in_err-routed.ensures.refused))

pub returns-in_default-clause-refused : goal.returns-in_default-clause-refused
returns-in_default-clause-refused g c =
    let short = at_output c.in-Some.routing.key OutOfMemory in
    subst (λ (told : OpenStackError). InOne (RoutingRefuses g.D.Folder.failed told) c.args.routings.items) (sym c.at_output.ensures)
    (c.loop-routing.invariant.refused short (first_refuses (RoutingRefuses g.D.Folder.failed short) (into_iter_items
    c.loop-routing.routing-iterator)
    c.in-Some.routing (into_iter_items c.next.new.self) c.in-Some.ensures.steps.0 (inr (inr refl))))
