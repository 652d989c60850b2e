use Rattle.std.proofs.Common.{◌≡◌, ◌≤◌, ◌++◌, true, length, take, slice_get, ap, sym, ◌∙◌, subst}
use Rattle.std.proofs.lemmas.List.{length-map}
use Rattle.std.specs.Option.{option_map, unwrap_or}
use Rattle.span_registry_layers_store.specs.Verdicts.{all_pass}
use Rattle.span_registry_layers.specs.SpanNotices.{each_sees, sees}
use Rattle.span_registry_layers.specs.declared.output_slot.OutputSlot.{OutputSlot}
use Rattle.span_tracing_outputs.proofs.VerdictLists.{all_so_far, answer_there, first_ones, next_so_far}
use Rattle.span_tracing_outputs.proofs.trace_stack.seen_in.Goals as goal

pub loop-place-preserved : goal.loop-place-preserved
loop-place-preserved g c =
    let s = c.args.stack.now in
    let span = c.args.span.now in
    let place = c.loop-place.place in
    let told : c.sees.result ≡ option_map (λ (row : OutputSlot _). sees s.registry span row) (slice_get s.rows place) = c.sees.ensures in
    next_so_far (each_sees s.registry span s.rows) c.loop-place.seen place c.unwrap_or.result c.loop-place-test.true
    (c.unwrap_or.ensures ∙ (ap (λ o. unwrap_or o true) told ∙ answer_there (λ (row : OutputSlot _). sees s.registry span row) s.rows place))
    c.loop-place.invariant

pub returns-clause-exact : goal.returns-clause-exact
returns-clause-exact g c =
    let s = c.args.stack.now in
    all_so_far (each_sees s.registry c.args.span.now s.rows) c.loop-place.seen c.loop-place.place c.loop-place.auto.place-end
    c.loop-place-test.false c.loop-place.invariant

pub returns-clause-outputs : goal.returns-clause-outputs
returns-clause-outputs g c few =
    let s = c.args.stack.now in
    let seen = each_sees s.registry c.args.span.now s.rows in
    let counted = length-map s.rows (λ (row : OutputSlot _). sees s.registry c.args.span.now row) in
    let all = all_so_far seen c.loop-place.seen c.loop-place.place c.loop-place.auto.place-end c.loop-place-test.false
    c.loop-place.invariant in
    ap (λ bs. take (length s.rows) bs) all
    ∙ (ap (λ n. take n (take 64 (seen ++ all_pass))) (sym counted)
    ∙ first_ones 64 seen all_pass (subst (λ n. n ≤ 64) (sym counted) few))
