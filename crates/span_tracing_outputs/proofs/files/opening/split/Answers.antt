use Rattle.std.proofs.Common.{List, [], ◌∷◌, ◌++◌, map, sym, ap, ◌∙◌, subst}
use Rattle.std.proofs.lemmas.List.{map-append}
use Rattle.span_tracing_outputs.specs.files.OpenedStack.{Pairs, RowOf, routing_of}
use Rattle.span_tracing_outputs.specs.files.Threads.{lane_of}
use Rattle.span_tracing_outputs.proofs.files.PairedLists.{pairs_more}
use Rattle.span_tracing_outputs.proofs.files.opening.split.Goals as goal

pub loop-spec-preserved : goal.loop-spec-preserved
loop-spec-preserved g c = record {
  rows = subst (Pairs (RowOf (map lane_of c.args.threads.now)) (c.loop-spec.yielded ++ c.in-Some.spec ∷ []))
      (sym c.in_ok-push.ensures.items) (pairs_more (RowOf (map lane_of c.args.threads.now)) c.loop-spec.yielded c.loop-spec.rows.items
      c.in-Some.spec _ c.loop-spec.invariant.rows c.in_ok-row.ensures.row);
  routings = c.in_ok-push-2.ensures.items ∙ ap (λ (xs : List _). xs ++ c.in_ok-row.routing ∷ []) c.loop-spec.invariant.routings ∙
      ap (λ x. map routing_of c.loop-spec.yielded ++ x ∷ []) c.in_ok-row.ensures.routing ∙
      sym (map-append routing_of c.loop-spec.yielded (c.in-Some.spec ∷ []));
}
