use Rattle.std.proofs.lemmas.Iterator.Adapters.{YieldsList-from_vec}
use Rattle.std.proofs.lemmas.Iterator.Consumers.{YieldsList-end}
use Rattle.std.proofs.lemmas.List.{map-id}
use Rattle.std.proofs.Common.{◌≡◌, ◌∙◌, arith, length, ◌∷◌, ◌++◌, [], sym, subst}
use Rattle.std.specs.Vec.Iter.{into_iter_items, into_iter_len}
use Rattle.span_tracing_skeleton.specs.declared.refusal.Refusal.TheVariants.{OutOfMemory}
use Rattle.span_tracing_outputs.specs.files.OpenedStack.{OpensSink, Pairs}
use Rattle.span_tracing_outputs.specs.files.OpenRefusals.{InOne, SinkRefuses, at_output}
use Rattle.span_tracing_outputs.specs.declared.files.open_error.OpenStackError.{OpenStackError}
use Rattle.span_tracing_outputs.proofs.files.FolderRefusals.{first_refuses, goes_out, later_refuses, memory_refuses}
use Rattle.span_tracing_outputs.proofs.files.PairedLists.{pairs_more}
use Rattle.span_tracing_outputs.proofs.files.opening.open_sinks.Goals as goal

pub loop-spec-preserved : goal.loop-spec-preserved
loop-spec-preserved g c = record {
  opened = subst (Pairs (OpensSink g.D.Folder.contents g.D.Folder.failed c.args.moment) (c.loop-spec.yielded ++ c.in-Some.spec ∷ []))
      (sym c.in-Ok.ensures.items) (pairs_more (OpensSink g.D.Folder.contents g.D.Folder.failed c.args.moment) c.loop-spec.yielded
      c.loop-spec.sinks.items c.in-Some.spec c.in_ok-sink.sink c.loop-spec.invariant.opened c.in_ok-sink.ensures.opened);
  refused = λ told one. c.loop-spec.invariant.refused told
      (later_refuses (SinkRefuses g.D.Folder.failed c.args.key told) (into_iter_items c.loop-spec.spec-iterator) c.in-Some.spec
      (into_iter_items c.next.new.self) c.in-Some.ensures.steps.0 one);
}

pub returns-in_err-sink-clause-refused : goal.returns-in_err-sink-clause-refused
returns-in_err-sink-clause-refused g c =
    goes_out (λ (told : OpenStackError). InOne (SinkRefuses g.D.Folder.failed c.args.key told) c.args.specs.items) c.from_residual.result
    c.in_err-sink.field-0.0 c.from_residual.ensures.1
    (c.loop-spec.invariant.refused c.in_err-sink.field-0.0
    (first_refuses (SinkRefuses g.D.Folder.failed c.args.key c.in_err-sink.field-0.0) (into_iter_items c.loop-spec.spec-iterator)
    c.in-Some.spec
    (into_iter_items c.next.new.self) c.in-Some.ensures.steps.0 c.in_err-sink.ensures.refused))

pub returns-in_default-clause-refused : goal.returns-in_default-clause-refused
returns-in_default-clause-refused g c =
    let short = at_output c.args.key OutOfMemory in
    subst (λ (told : OpenStackError). InOne (SinkRefuses g.D.Folder.failed c.args.key told) c.args.specs.items) (sym c.at_output.ensures)
    (c.loop-spec.invariant.refused short (first_refuses (SinkRefuses g.D.Folder.failed c.args.key short) (into_iter_items
    c.loop-spec.spec-iterator)
    c.in-Some.spec (into_iter_items c.next.new.self) c.in-Some.ensures.steps.0 (memory_refuses g.D.Folder.failed c.args.key
    c.in-Some.spec)))

pub returns-clause-opened : goal.returns-clause-opened
returns-clause-opened g c =
    let told = c.into_iter-spec-iterator.ensures.into_iter_gives.1 in
    let many : into_iter_len c.into_iter-spec-iterator.result ≡ length c.args.specs.items = omega (arith, told) in
    let start = YieldsList-from_vec {s = c.into_iter-spec-iterator.result} c.args.specs.items
    c.into_iter-spec-iterator.ensures.into_iter_gives.0 many in
    let all = YieldsList-end start c.loop-spec.yielded c.loop-spec.spec-iterator c.loop-spec.yielded_by c.next.result c.next.new.self
    c.in-None.is c.next.ensures.steps in
    subst (λ xs. Pairs (OpensSink g.D.Folder.contents g.D.Folder.failed c.args.moment) xs c.loop-spec.sinks.items)
    (sym (map-id c.loop-spec.yielded) ∙ all.0) c.loop-spec.invariant.opened
