use Rattle.std.proofs.Common.{◌≡◌, ◌≤◌, ◌++◌, true, length, take, slice_get, ap, sym, ◌∙◌, subst}
use Rattle.std.proofs.lemmas.List.{length-map}
use Rattle.std.specs.Option.{option_map, unwrap_or}
use Rattle.span_registry_layers_store.specs.Verdicts.{all_pass}
use Rattle.span_registry_layers.specs.OutputSlots.{marks_of}
use Rattle.span_registry_layers.specs.declared.output_slot.OutputSlot.{OutputSlot}
use Rattle.span_tracing_outputs.proofs.VerdictLists.{all_so_far, answer_there, first_ones, next_so_far}
use Rattle.span_tracing_outputs.proofs.trace_stack.passed_in.Goals as goal

pub loop-place-preserved : goal.loop-place-preserved
loop-place-preserved g c =
    let s = c.args.stack.now in
    let place = c.loop-place.place in
    let told : c.passed.result ≡ option_map (λ (row : OutputSlot _). row.passed) (slice_get s.rows place) = c.passed.ensures in
    next_so_far (marks_of s.rows) c.loop-place.passed place c.unwrap_or.result c.loop-place-test.true
    (c.unwrap_or.ensures ∙ (ap (λ o. unwrap_or o true) told ∙ answer_there (λ (row : OutputSlot _). row.passed) s.rows place))
    c.loop-place.invariant

pub returns-clause-exact : goal.returns-clause-exact
returns-clause-exact g c =
    all_so_far (marks_of c.args.stack.now.rows) c.loop-place.passed c.loop-place.place c.loop-place.auto.place-end
    c.loop-place-test.false c.loop-place.invariant

pub returns-clause-outputs : goal.returns-clause-outputs
returns-clause-outputs g c few =
    let s = c.args.stack.now in
    let passed = marks_of s.rows in
    let counted = length-map s.rows (λ (row : OutputSlot _). row.passed) in
    let all = all_so_far passed c.loop-place.passed c.loop-place.place c.loop-place.auto.place-end c.loop-place-test.false
    c.loop-place.invariant in
    ap (λ bs. take (length s.rows) bs) all
    ∙ (ap (λ n. take n (take 64 (passed ++ all_pass))) (sym counted)
    ∙ first_ones 64 passed all_pass (subst (λ n. n ≤ 64) (sym counted) few))
